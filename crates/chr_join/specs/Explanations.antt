-- What a refusal tells.
use Rattle.std.specs.Prelude.{◌≡◌, List, ◌∷◌, ⊤}
use Rattle.chr_base.specs.declared.rule.Rule.{Rule}
use Rattle.chr_base.specs.declared.derivation.Derivation.{Derivation}
use Rattle.chr_base.specs.declared.derivation.Step.{Step}
use Rattle.chr_base.specs.Stores.{Store}
use Rattle.chr_base.specs.Rules.{Step as RuleStep}
use Rattle.chr_base.specs.Rewriting.{IsAtRest}
use Rattle.chr_rewrite.specs.Derivations.{IsDerivation}
use Rattle.chr_overlaps.specs.declared.cases.Case.{Case}
use Rattle.chr_join.specs.declared.coverage.Coverage.{Coverage}
use Rattle.chr_join.specs.declared.coverage.Coverage.TheVariants.{Joint}
use Rattle.chr_join.specs.declared.refused.Failure.{Failure}
use Rattle.chr_join.specs.declared.refused.Cause.{Cause}
use Rattle.chr_join.specs.declared.refused.Cause.TheVariants as cause
use Rattle.chr_join.specs.Sides.{IsSideComputation}
use Rattle.chr_join.specs.Coverages.{IsTooManyBy}
use Rattle.chr_join.specs.Verdicts.{IsFirstBy, IsFirstCaseBy}

-- The derivation d starts at s with the step st, goes on with the plain derivation, and ends in t.
pub record IsSideOf (rules : List Rule) (s : Store) (st : Step) (d : Derivation) (t : Store) : Type 0 where
  pub start : d.start ≡ s
  pub rest : List Step
  pub steps : d.steps.items ≡ st ∷ rest
  pub runs : IsSideComputation rules s st rest t

-- f has the derivations of both sides of the case c, which end in different stores.
pub record Explains (rules : List Rule) (c : Case) (f : Failure) : Type 0 where
  pub left : IsSideOf rules c.store c.left f.left f.left_end
  pub right : IsSideOf rules c.store c.right f.right f.right_end
  pub differ : ¬ (f.left_end ≡ f.right_end)

-- f explains the first case of its overlap that is not joinable.
pub record ExplainsFirstBy (coverage : Coverage) (rules : List Rule) (f : Failure) : Type 0 where
  pub case : Case
  pub first : IsFirstCaseBy coverage rules f.overlap case
  pub explains : Explains rules case f

-- The cause is the first there is, overlap by overlap and case by case.
abbrev pub IsRefusalBy : Coverage → List Rule → Cause → Type 0
IsRefusalBy coverage rules (cause.Fails f) = IsFirstBy coverage rules f.overlap × ExplainsFirstBy coverage rules f
IsRefusalBy coverage rules (cause.TooManyTypes t) =
    IsFirstBy coverage rules t.overlap × IsTooManyBy coverage rules t.overlap t.classes
IsRefusalBy coverage rules cause.Memory = ⊤

-- the cause is the first there is, by joint cases
abbrev pub IsRefusal : List Rule → Cause → Type 0
IsRefusal rules e = IsRefusalBy Joint rules e

-- P holds of what a case that fails is told by, if that is the cause.
abbrev pub IfFails : Cause → (Failure → Type 0) → Type 0
IfFails (cause.Fails f) P = P f
IfFails (cause.TooManyTypes t) P = ⊤
IfFails cause.Memory P = ⊤

-- The derivation replays to t, which is at rest.
abbrev pub ReplaysToRest : List Rule → Derivation → Store → Type 0
ReplaysToRest rules d t = IsDerivation rules d.steps.items d.start t × IsAtRest (RuleStep rules) t

-- Both derivations start at one store, and replay to two different stores at rest.
pub record ReplaysApart (rules : List Rule) (f : Failure) : Type 0 where
  pub start : f.left.start ≡ f.right.start
  pub left : ReplaysToRest rules f.left f.left_end
  pub right : ReplaysToRest rules f.right f.right_end
  pub differ : ¬ (f.left_end ≡ f.right_end)
