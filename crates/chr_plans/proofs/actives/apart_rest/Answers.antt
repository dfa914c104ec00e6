use Rattle.chr_plans.proofs.Joined.{apart_rests}
use Rattle.chr_plans.proofs.actives.apart_rest.Goals as goal

pub returns : goal.returns
returns c = apart_rests
