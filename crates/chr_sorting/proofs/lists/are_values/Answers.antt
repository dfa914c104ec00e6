use Rattle.std.proofs.Common.{rules, arith, pos, get_or}
use mir.Val.{SFits}
use mir.Syntax.{w64}
use Rattle.chr_sorting.proofs.ListsThere.{are_values, value_fits, one_more_value}
use Rattle.chr_sorting.proofs.lists.are_values.Goals as goal

pub loop-number-preserved : goal.loop-number-preserved
loop-number-preserved c =
    let fits : SFits w64 (get_or c.args.numbers.now c.loop-number.number-index (pos 0)) = search rules in
    one_more_value c.args.numbers.now c.loop-number.number-index (value_fits _ fits) c.loop-number.invariant

pub returns : goal.returns
returns c = are_values c.args.numbers.now (λ k l. c.loop-number.invariant k
    (let e = c.loop-number-test.false in omega (arith, l, e)))
