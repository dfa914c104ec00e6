use Rattle.std.proofs.Common.{arith}
use Rattle.chr_types.proofs.CandidateSteps.{rises_by_steps}
use Rattle.chr_rows_tests.proofs.tests.types.is_rising.Goals as goal

pub returns : goal.returns
returns c = let end = c.loop-i-test.false in λ _. rises_by_steps c.args.numbers.now
    (λ k l. c.loop-i.invariant k (omega (arith, end, l)))
