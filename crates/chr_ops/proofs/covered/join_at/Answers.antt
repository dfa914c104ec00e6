use Rattle.std.proofs.Common.{rules, ◌≡◌, Some}
use Rattle.std.specs.FinMap as map
use Rattle.chr_ops.proofs.RangeJoins.{touching_joined, none_ends}
use Rattle.chr_ops.proofs.covered.join_at.Goals as goal

pub returns-in-Some-ending_before : goal.returns-in-Some-ending_before
returns-in-Some-ending_before c =
    let before = c.in-Some-ending_before.ensures.some in
    let there : map.get c.args.ends.now c.args.id ≡ Some c.in-Some.last = search rules in
    rw (c.remove.ensures, c.set.ensures)
    (touching_joined c.args.ends.now c.in-Some-ending_before.first c.args.id before.0 c.in-Some.last c.requires before.1
    there before.2 before.3)

pub returns-in_default-ending_before : goal.returns-in_default-ending_before
returns-in_default-ending_before c = none_ends c.args.ends.now c.args.id c.requires
    c.in_default-ending_before.ensures.none
