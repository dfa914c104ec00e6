use Rattle.std.proofs.Common.{sym, ◌∙◌, arith}
use Rattle.chr_base.proofs.SameAtoms.{other_lengths, same_here, other_here, same_to_the_end}
use Rattle.chr_base.proofs.lists.same_atoms.Goals as goal

pub returns-then-left-right : goal.returns-then-left-right
returns-then-left-right c = other_lengths c.args.left.now c.args.right.now c.if-left-right.true

pub returns-then-not-is_same : goal.returns-then-not-is_same
returns-then-not-is_same c =
    other_here c.args.left.now c.args.right.now c.loop-i.i _ _ c.loop-i-test.true (omega (arith, c.if-left-right.false))
    c.index-left-i.is c.index-right-i.is (sym c.is_same.ensures ∙ c.if-not-is_same.true) c.loop-i.invariant

pub loop-i-preserved : goal.loop-i-preserved
loop-i-preserved c =
    same_here c.args.left.now c.args.right.now c.loop-i.i _ _ c.loop-i-test.true (omega (arith, c.if-left-right.false))
    c.index-left-i.is c.index-right-i.is (sym c.is_same.ensures ∙ c.if-not-is_same.false) c.loop-i.invariant

pub returns : goal.returns
returns c = same_to_the_end c.args.left.now c.args.right.now c.loop-i.i c.loop-i-test.false
    (omega (arith, c.if-left-right.false)) c.loop-i.invariant
