use Rattle.std.proofs.Common.{rules}
use Rattle.chr_ops.proofs.joining.take_in_covered.Goals as goal

pub returns-in_err-told-clause-full : goal.returns-in_err-told-clause-full
returns-in_err-told-clause-full c = λ e. c.in_err-told.ensures.full (search (rules, e))
