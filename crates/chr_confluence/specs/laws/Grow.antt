-- What the law of larger stores says.
use Rattle.std.specs.Prelude.{List}
use Rattle.chr_base.specs.declared.rule.Rule.{Rule}
use Rattle.chr_base.specs.FinBag.{◌⊕◌}
use Rattle.chr_base.specs.Stores.{Store}
use Rattle.chr_base.specs.Rules.{Step, StepBy, Valuation}
use Rattle.chr_base.specs.Rewriting.{Reaches}

-- an instance's step stays its step, with the same effect, where more is there
abbrev pub InstancesGrow : Type 0
InstancesGrow = (r : Rule) (v : Valuation) (s t more : Store) → StepBy r v s t → StepBy r v (s ⊕ more) (t ⊕ more)

abbrev pub StepsGrow : Type 0
StepsGrow = (rules : List Rule) (s t more : Store) → Step rules s t → Step rules (s ⊕ more) (t ⊕ more)

-- a run goes on in every larger store
abbrev pub ReachingGrows : Type 0
ReachingGrows =
    (rules : List Rule) (s t more : Store) → Reaches (Step rules) s t → Reaches (Step rules) (s ⊕ more) (t ⊕ more)
