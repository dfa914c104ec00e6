-- An operation that is told, and the record that is added to those that wait.
use Rattle.std.specs.Prelude.{◌≡◌, ⊤, ℕ, List, [], ◌∷◌, ◌++◌}
use Rattle.std.specs.FinMap as map
use Rattle.chr_base.specs.declared.program.Program.{Program}
use Rattle.chr_base.specs.ProgramTests.{Declaration}
use Rattle.chr_ops.specs.Operations.{Operation, Operations, IsNew}
use Rattle.chr_records.specs.Records.{records_of, IsWhole}
use Rattle.chr_node_records.specs.Texts.{operations_in}
use Rattle.chr_node.specs.declared.fault.Refusal.{Refusal}
use Rattle.chr_node.specs.declared.fault.Refusal.TheVariants as refusal
use Rattle.chr_node.specs.Refusals.{HolderRefuses}

-- behind the old records stands one more, which has just this operation
pub record AddsRecord (ds : List Declaration) (o : Operation) (old new : List ℕ) : Type 0 where
  pub whole : IsWhole new
  pub text : List ℕ
  pub added : records_of new ≡ records_of old ++ text ∷ []
  pub read : operations_in ds text ≡ o ∷ []

-- the operation was not held, and is now
abbrev pub TakesIn : Operations → Operation → Operations → Type 0
TakesIn m o n = IsNew m o × (n ≡ map.insert m o.0 o.1)

-- why it is refused: the holder refuses it, or its text can't stand in a record
abbrev pub StageRefuses : Program → Operations → Operation → Refusal → Type 0
StageRefuses p m o refusal.NoText = ⊤
StageRefuses p m o e = HolderRefuses p m o e
