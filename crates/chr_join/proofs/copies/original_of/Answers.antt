use Rattle.std.proofs.Common.{arith}
use Rattle.chr_join.proofs.CopiedRules.{equal_rules}
use Rattle.chr_join.proofs.copies.original_of.Goals as goal

pub returns-then-eq-clause-same : goal.returns-then-eq-clause-same
returns-then-eq-clause-same c =
    let earlier = c.loop-earlier-test.true in
    let there = c.requires in
    equal_rules c.args.rules.now c.loop-earlier.earlier c.args.place c.index-rules-earlier.result
    c.index-rules-place.result c.eq.result (omega (arith, earlier, there)) there c.index-rules-earlier.is
    c.index-rules-place.is c.eq.ensures c.if-eq.true
