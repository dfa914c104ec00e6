use Rattle.std.proofs.Common.{arith, length, ◌<◌, ◌-◌}
use Rattle.std.proofs.lemmas.Bool.Decides.{nat_tests}
use Rattle.chr_rewrite.proofs.Deriving.{took_there}
use Rattle.chr_rewrite.proofs.replay.take_step.Goals as goal

pub returns-clause-taken : goal.returns-clause-taken
returns-clause-taken g c =
    let test = c.in-Some.ensures.lookup.0 in
    let within : c.args.step.now.rule - 1 < length c.args.rules.now = grind (arith, nat_tests) in
    took_there c.args.rules.now c.args.step.now c.in-Some.rule.now _ _ c.if-step-eq0.false within
    c.in-Some.ensures.lookup.1
    (rw c.deref.ensures.0 at (c.fires.ensures.0 c.if-not-fires.false))
    (rw c.deref-else-not-fires.ensures.0 at (c.has.ensures.0 c.if-not-has.false))
    (rw c.deref-2.ensures.0 at c.in_ok-fire.ensures.ok)
