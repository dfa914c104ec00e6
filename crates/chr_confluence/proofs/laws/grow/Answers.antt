use Rattle.chr_base.specs.FinBag as bag
use Rattle.chr_base.specs.FinBag.{◌⊕◌}
use Rattle.chr_base.proofs.Stores.{plus_comm}
use Rattle.chr_base.specs.Rules.{Step}
use Rattle.chr_base.proofs.Steps.{StepBy-grows, grows}
use Rattle.chr_base.proofs.Rewriting.{reaches_grows}
use Rattle.chr_confluence.proofs.laws.grow.Goals as goal

pub returns-clause-instances : goal.returns-clause-instances
returns-clause-instances c = λ r v s t more h. StepBy-grows r v s t more h

pub returns-clause-steps : goal.returns-clause-steps
returns-clause-steps c = λ rules s t more h. grows rules s t more h

pub returns-clause-runs : goal.returns-clause-runs
returns-clause-runs c = λ rules s t more h. reaches_grows (Step rules) bag.empty ◌⊕◌ (grows rules) plus_comm s t more h
