-- Why a call on a replica is refused. Where several refusals apply, the one with the least number is answered; want of
-- memory may stand in place of one that was not yet found.
use Rattle.std.specs.Prelude.{◌≡◌, ℕ, ◌+◌, ◌<◌, List, All, Some, ⊤}
use Rattle.std.specs.FinMap as map
use Rattle.chr_base.specs.declared.program.Program.{Program}
use Rattle.chr_base.specs.declared.derivation.Step.{Step as StepValue}
use Rattle.chr_base.specs.FinBag.{IsWithin}
use Rattle.chr_base.specs.Stores.{Store, size}
use Rattle.chr_base.specs.Rules.{Step}
use Rattle.chr_base.specs.Programs.{rules_of}
use Rattle.chr_base.specs.Rewriting.{IsAtRest}
use Rattle.chr_base.specs.Sameness.{AreSame}
use Rattle.chr_ops.specs.declared.fault.AddFault.{AddFault}
use Rattle.chr_ops.specs.declared.fault.AddFault.TheVariants as fault
use Rattle.chr_ops.specs.declared.limits.TheConstants.{MAX_TOLD}
use Rattle.chr_ops.specs.Operations.{Operation, told_atoms, IsNew, IsHeldOtherwise}
use Rattle.chr_ops.specs.Joins.{HasNoClash, IsFirstClash, IsOverLimit}
use Rattle.chr_rewrite.specs.Derivations.{IsApplicable}
use Rattle.chr_replica.specs.declared.limits.TheConstants.{LAST_LEASE}
use Rattle.chr_replica.specs.declared.refusal.Refusal.{Refusal}
use Rattle.chr_replica.specs.declared.refusal.Refusal.TheVariants as refusal
use Rattle.chr_replica.specs.declared.refusal.Limit.TheVariants as limit
use Rattle.chr_replica.specs.Replicas.{Replica, IsDeclared}

-- the number of a refusal
abbrev pub refusal_number : Refusal → ℕ
refusal_number refusal.UnknownSymbol = 32
refusal_number (refusal.Clash id) = 33
refusal_number (refusal.Full what) = 34
refusal_number (refusal.NoLease number) = 36
refusal_number refusal.ForeignProgram = 37
refusal_number (refusal.Leased count) = 38
refusal_number refusal.NotThere = 39
refusal_number refusal.NotAtRest = 40
refusal_number refusal.Memory = 99

-- the refusal for a fault of an operation set
abbrev pub refusal_of : AddFault → Refusal
refusal_of (fault.Clash id) = refusal.Clash id
refusal_of fault.Full = refusal.Full limit.Told
refusal_of fault.Memory = refusal.Memory

abbrev pub RefusesTell : Program → Replica → Operation → Refusal → Type 0
RefusesTell p s op refusal.UnknownSymbol = ¬ IsDeclared p op
RefusesTell p s op (refusal.Clash id) = IsDeclared p op × (id ≡ op.0) × IsHeldOtherwise s.operations op
RefusesTell p s op (refusal.Full limit.Told) =
    IsDeclared p op × IsNew s.operations op × (MAX_TOLD < told_atoms s.operations + size op.1)
RefusesTell p s op refusal.Memory = ⊤
RefusesTell p s op _ = ⊥

abbrev pub RefusesMerge : Program → Replica → List Operation → Refusal → Type 0
RefusesMerge p s ops refusal.UnknownSymbol = ¬ All (IsDeclared p) ops
RefusesMerge p s ops (refusal.Clash id) = All (IsDeclared p) ops × IsFirstClash s.operations ops id
RefusesMerge p s ops (refusal.Full limit.Told) =
    All (IsDeclared p) ops × HasNoClash s.operations ops × IsOverLimit s.operations ops
RefusesMerge p s ops refusal.Memory = ⊤
RefusesMerge p s ops _ = ⊥

abbrev pub RefusesStep : Program → Replica → StepValue → Refusal → Type 0
RefusesStep p s step refusal.NotThere = ¬ IsApplicable (rules_of p) s.pool step
RefusesStep p s step refusal.Memory = ⊤
RefusesStep p s step _ = ⊥

abbrev pub RefusesTake : Replica → Store → Refusal → Type 0
RefusesTake s part (refusal.Full limit.Leases) = LAST_LEASE < s.next
RefusesTake s part refusal.NotThere = ¬ (LAST_LEASE < s.next) × (¬ IsWithin part s.pool)
RefusesTake s part refusal.Memory = ⊤
RefusesTake s part _ = ⊥

abbrev pub RefusesTakeParts : Replica → ℕ → Refusal → Type 0
RefusesTakeParts s n (refusal.Full limit.Leases) = LAST_LEASE + 1 < s.next + n
RefusesTakeParts s n refusal.Memory = ⊤
RefusesTakeParts s n _ = ⊥

-- why a part that comes back under a number is refused, which was rewritten under the program q
abbrev pub RefusesPut : Program → Replica → Program → ℕ → Store → Refusal → Type 0
RefusesPut p s q number part (refusal.NoLease k) = (k ≡ number) × (¬ (map.get s.out number ≡ Some part))
RefusesPut p s q number part refusal.ForeignProgram = (map.get s.out number ≡ Some part) × (¬ AreSame q p)
RefusesPut p s q number part refusal.Memory = ⊤
RefusesPut p s q number part _ = ⊥

abbrev pub RefusesRecall : Replica → ℕ → Refusal → Type 0
RefusesRecall s number (refusal.NoLease k) = (k ≡ number) × ((part : Store) → ¬ (map.get s.out number ≡ Some part))
RefusesRecall s number refusal.Memory = ⊤
RefusesRecall s number _ = ⊥

abbrev pub RefusesShow : Program → Replica → Refusal → Type 0
RefusesShow p s (refusal.Leased count) = (count ≡ map.len s.out) × (0 < count)
RefusesShow p s refusal.NotAtRest = (s.out ≡ map.empty) × (¬ IsAtRest (Step (rules_of p)) s.pool)
RefusesShow p s refusal.Memory = ⊤
RefusesShow p s _ = ⊥
