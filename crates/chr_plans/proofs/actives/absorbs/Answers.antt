use Rattle.chr_plans.proofs.ActiveAtoms.{absorbed}
use Rattle.chr_plans.proofs.actives.absorbs.Goals as goal

pub returns : goal.returns
returns c = absorbed
