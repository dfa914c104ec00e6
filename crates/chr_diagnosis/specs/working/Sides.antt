-- One side of a case.
use Rattle.std.specs.Prelude.{◌≡◌, List}
use Rattle.chr_base.specs.declared.derivation.Step.{Step}
use Rattle.chr_base.specs.declared.rule.Rule.{Rule}
use Rattle.chr_base.specs.Stores.{Store}
use Rattle.chr_join.specs.Explanations.{ReplaysToRest}
use Rattle.chr_diagnosis.specs.declared.smaller.Side.{Side}
use Rattle.chr_diagnosis.specs.Diagnoses.{BeginsWith}

-- a derivation from the store that begins with the step, and its end, which is at rest
pub record IsSideFrom (rules : List Rule) (s : Store) (st : Step) (side : Side) : Type 0 where
  pub start : side.derivation.start ≡ s
  pub first : BeginsWith st side.derivation
  pub replays : ReplaysToRest rules side.derivation side.end
