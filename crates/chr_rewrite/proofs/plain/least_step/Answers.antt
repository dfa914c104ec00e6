use Rattle.std.proofs.Common.{arith, refl, ◌+◌}
use Rattle.chr_base.proofs.Steps.{rests}
use Rattle.chr_rewrite.proofs.Deriving.{least_of, no_step_more}
use Rattle.chr_rewrite.proofs.plain.least_step.Goals as goal

pub returns-in-Some-clause-least : goal.returns-in-Some-clause-least
returns-in-Some-clause-least c =
    least_of c.args.rules.now c.loop-i.i c.index-rules-i.result c.args.bag.now c.atoms.result.now
    (record { rule = c.loop-i.i + 1; heads = c.in-Some.heads }) c.loop-i-test.true c.index-rules-i.is
    c.atoms.ensures c.loop-i.invariant refl
    c.in-Some.ensures.instance c.in-Some.ensures.there c.in-Some.ensures.least

pub loop-i-preserved : goal.loop-i-preserved
loop-i-preserved c = no_step_more c.args.rules.now c.loop-i.i c.index-rules-i.result c.args.bag.now c.atoms.result.now
    c.loop-i-test.true c.index-rules-i.is c.atoms.ensures c.loop-i.invariant c.in_default.ensures.none

pub returns-clause-none : goal.returns-clause-none
returns-clause-none c = rests c.args.rules.now c.args.bag.now (λ k d h. c.loop-i.invariant k d (omega arith))
