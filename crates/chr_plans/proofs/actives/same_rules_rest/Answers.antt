use Rattle.chr_plans.proofs.ActiveAtoms.{same_rest}
use Rattle.chr_plans.proofs.actives.same_rules_rest.Goals as goal

pub returns : goal.returns
returns c = same_rest
