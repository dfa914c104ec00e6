use Rattle.chr_plans.proofs.ActiveAtoms.{part_rests}
use Rattle.chr_plans.proofs.actives.parts_rest.Goals as goal

pub returns : goal.returns
returns c = part_rests
