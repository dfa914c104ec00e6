use Rattle.chr_base.proofs.SameSteps.{same_programs_reach_alike}
use Rattle.chr_base.proofs.laws.same_programs_reach_alike.Goals as goal

pub returns : goal.returns
returns c = λ p q same s t. same_programs_reach_alike p q same s t
