use Rattle.std.proofs.Common.{◌≡◌, pos, ℤ, get_or, rules, arith, subst}
use mir.Val.{SFits}
use mir.Syntax.{w64}
use Rattle.std.proofs.lemmas.Int.{ints}
use Rattle.chr_types.specs.OrderTypes.{In}
use Rattle.chr_types.proofs.Members.{in_at}
use Rattle.chr_overlaps.proofs.constants.gap_for.Goals as goal

pub returns-else-constant-other-2-clause-there : goal.returns-else-constant-other-2-clause-there
returns-else-constant-other-2-clause-there c =
    let xs = c.args.found.now in
    let fc : SFits w64 c.args.constant = c.ranges.constant in
    let fo : SFits w64 (get_or xs c.loop-i.i (pos 0)) = search rules in
    let t = c.if-constant-other.true in
    let f = c.if-constant-other-2.false in
    let e : get_or xs c.loop-i.i (pos 0) ≡ c.args.constant = omega (arith, ints, t, f) in
    subst (λ (z : ℤ). In z xs) e (in_at xs c.loop-i.i (pos 0) c.loop-i-test.true)
