-- The two sides of a case: each is a step at its store, and the plain derivation after it.
use Rattle.std.specs.Prelude.{List}
use Rattle.chr_base.specs.declared.rule.Rule.{Rule}
use Rattle.chr_base.specs.declared.derivation.Step.{Step}
use Rattle.chr_base.specs.Stores.{Store}
use Rattle.chr_rewrite.specs.Derivations.{LeadsTo, IsPlainComputation}
use Rattle.chr_overlaps.specs.declared.cases.Case.{Case}

-- The step st leads from s to a store whose plain derivation takes these steps and ends in t.
abbrev pub IsSideComputation : List Rule → Store → Step → List Step → Store → Type 0
IsSideComputation rules s st steps t = (u : Store) × LeadsTo rules st s u × IsPlainComputation rules steps u t

-- The side that begins with the step st at s ends in t.
abbrev pub SideEnds : List Rule → Store → Step → Store → Type 0
SideEnds rules s st t = (steps : List Step) × IsSideComputation rules s st steps t

-- Both sides of the case end in one store, so that its critical pair is joinable.
pub record IsJoinable (rules : List Rule) (c : Case) : Type 0 where
  pub end : Store
  pub left : SideEnds rules c.store c.left end
  pub right : SideEnds rules c.store c.right end
