-- Why a node refuses a tell.
use Rattle.std.specs.Prelude.{◌≡◌, ◌≢◌, ◌⊎◌, ⊤, ℕ, ◌+◌, ◌-◌, ◌^◌, ◌<◌, ◌≤◌}
use Rattle.chr_base.specs.declared.program.Program.{Program}
use Rattle.chr_base.specs.Programs.{declarations, declares_atom}
use Rattle.chr_base.specs.Stores.{size}
use Rattle.chr_base.specs.Values.{Each}
use Rattle.chr_ops.specs.declared.id.OpId.{OpId}
use Rattle.chr_ops.specs.declared.limits.TheConstants.{MAX_TOLD}
use Rattle.chr_ops.specs.Operations.{Operation, Operations, told_atoms, IsNew, IsHeldOtherwise}
use Rattle.chr_node.specs.declared.fault.Refusal.{Refusal}
use Rattle.chr_node.specs.declared.fault.Refusal.TheVariants as refusal

-- the number of a refusal: that of command lines and of replicas, where these have it
abbrev pub refusal_number : Refusal → ℕ
refusal_number refusal.UnknownSymbol = 32
refusal_number (refusal.Clash id) = 33
refusal_number refusal.Full = 34
refusal_number refusal.NotNext = 41
refusal_number refusal.NoText = 42
refusal_number refusal.Memory = 99

-- Why a holder refuses an operation. Want of memory may stand in place of another cause.
abbrev pub HolderRefuses : Program → Operations → Operation → Refusal → Type 0
HolderRefuses p m o refusal.UnknownSymbol = ¬ Each (declares_atom (declarations p)) o.1
HolderRefuses p m o (refusal.Clash id) = (id ≡ o.0) × IsHeldOtherwise m o
HolderRefuses p m o refusal.Full = IsNew m o × (MAX_TOLD < told_atoms m + size o.1)
HolderRefuses p m o refusal.NotNext = ⊥
HolderRefuses p m o refusal.NoText = ⊥
HolderRefuses p m o refusal.Memory = ⊤

-- the id is not that of the next operation of an origin, whose last one has this number
abbrev pub IsNotNext : ℕ → ℕ → OpId → Type 0
IsNotNext origin last id = (id.origin ≢ origin) ⊎ (id.number ≢ last + 1) ⊎ (2 ^ 64 - 1 ≤ last)

-- why a node refuses one: its holder does, or it is new and not the next one, or its text can't stand in a record
abbrev pub NodeRefuses : Program → Operations → ℕ → ℕ → Operation → Refusal → Type 0
NodeRefuses p m origin last o refusal.NotNext = IsNew m o × IsNotNext origin last o.0
NodeRefuses p m origin last o refusal.NoText = ⊤
NodeRefuses p m origin last o e = HolderRefuses p m o e
