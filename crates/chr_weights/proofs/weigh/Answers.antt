use Rattle.chr_weights.proofs.Weighing.{not_lowered}
use Rattle.chr_weights.proofs.weigh.Goals as goal

pub returns-in-Some-clause-exact : goal.returns-in-Some-clause-exact
returns-in-Some-clause-exact c = not_lowered c.args.program c.in-Some.fault.rule c.in-Some.fault.before
    c.in-Some.fault.after c.in-Some.ensures.first
