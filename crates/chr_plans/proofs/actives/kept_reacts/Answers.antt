use Rattle.chr_plans.proofs.ActiveAtoms.{kept_reacts}
use Rattle.chr_plans.proofs.actives.kept_reacts.Goals as goal

pub returns : goal.returns
returns c = kept_reacts
