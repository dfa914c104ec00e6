use Rattle.std.proofs.Common.{ap, ◌∙◌, get_or, pos, w64, to_z, nat_eq, not}
use lib.Signed.{lt_z, le_z}
use Rattle.std.specs.Ordering.{int_cmp}
use Rattle.chr_base.specs.Rules.{compares}
use Rattle.chr_tables.proofs.LaneMasks.{fails_in_each}
use Rattle.chr_tables.proofs.LaneSigned.{not_less, not_at_most, not_greater, not_at_least, not_equal, not_different}
use Rattle.chr_tables.proofs.lanes.block.holds_somewhere.Goals as goal

pub returns-in-Less : goal.returns-in-Less
returns-in-Less c = λ e lane below x y.
    ap (λ s. compares s (int_cmp (get_or c.args.left.now lane (pos 0)) (get_or c.args.right.now lane (pos 0))))
    c.in-Less.is
    ∙ not_less _ _ x y (fails_in_each (λ a b. lt_z (to_z w64 a) (to_z w64 b)) c.args.left.now c.args.right.now
    c.requires.left c.requires.right e lane below)

pub returns-in-AtMost : goal.returns-in-AtMost
returns-in-AtMost c = λ e lane below x y.
    ap (λ s. compares s (int_cmp (get_or c.args.left.now lane (pos 0)) (get_or c.args.right.now lane (pos 0))))
    c.in-AtMost.is
    ∙ not_at_most _ _ x y (fails_in_each (λ a b. le_z (to_z w64 a) (to_z w64 b)) c.args.left.now c.args.right.now
    c.requires.left c.requires.right e lane below)

pub returns-in-Greater : goal.returns-in-Greater
returns-in-Greater c = λ e lane below x y.
    ap (λ s. compares s (int_cmp (get_or c.args.left.now lane (pos 0)) (get_or c.args.right.now lane (pos 0))))
    c.in-Greater.is
    ∙ not_greater _ _ x y (fails_in_each (λ a b. lt_z (to_z w64 a) (to_z w64 b)) c.args.right.now c.args.left.now
    c.requires.right c.requires.left e lane below)

pub returns-in-AtLeast : goal.returns-in-AtLeast
returns-in-AtLeast c = λ e lane below x y.
    ap (λ s. compares s (int_cmp (get_or c.args.left.now lane (pos 0)) (get_or c.args.right.now lane (pos 0))))
    c.in-AtLeast.is
    ∙ not_at_least _ _ x y (fails_in_each (λ a b. le_z (to_z w64 a) (to_z w64 b)) c.args.right.now c.args.left.now
    c.requires.right c.requires.left e lane below)

pub returns-in-Equal : goal.returns-in-Equal
returns-in-Equal c = λ e lane below x y.
    ap (λ s. compares s (int_cmp (get_or c.args.left.now lane (pos 0)) (get_or c.args.right.now lane (pos 0))))
    c.in-Equal.is
    ∙ not_equal _ _ x y (fails_in_each (λ a b. nat_eq a b) c.args.left.now c.args.right.now c.requires.left
    c.requires.right e lane below)

pub returns-in-NotEqual : goal.returns-in-NotEqual
returns-in-NotEqual c = λ e lane below x y.
    ap (λ s. compares s (int_cmp (get_or c.args.left.now lane (pos 0)) (get_or c.args.right.now lane (pos 0))))
    c.in-NotEqual.is
    ∙ not_different _ _ x y (fails_in_each (λ a b. not (nat_eq a b)) c.args.left.now c.args.right.now c.requires.left
    c.requires.right e lane below)
