use Rattle.chr_plans.proofs.ActiveAtoms.{removed_reacts}
use Rattle.chr_plans.proofs.actives.removed_reacts.Goals as goal

pub returns : goal.returns
returns c = removed_reacts
