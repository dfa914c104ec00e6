use Rattle.chr_plans.proofs.ActiveAtoms.{empty_rests}
use Rattle.chr_plans.proofs.actives.empty_rests.Goals as goal

pub returns : goal.returns
returns c = empty_rests
