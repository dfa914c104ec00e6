use Rattle.std.proofs.Common.{Err, ap, sym}
use Rattle.chr_join.proofs.parts.stepped.Goals as goal

pub returns-in_err-take_steps-clause-not_there : goal.returns-in_err-take_steps-clause-not_there
returns-in_err-take_steps-clause-not_there c n e =
    let kept = rw e at c.from_residual-in_err-take_steps.ensures.1 in
    rw (← c.in_ok-pool.ensures) (c.in_err-take_steps.ensures.not_there n (ap Err (sym kept)))
