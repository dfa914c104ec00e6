use Rattle.std.proofs.Common.{◌<◌, length, sym, ◌∙◌, arith}
use Rattle.chr_base.proofs.Subsequences.{passed_at, other_at, rest_at, all_read}
use Rattle.chr_base.proofs.lists.take_subsequence_out.Goals as goal
use Rattle.chr_base.proofs.lists.take_subsequence_out.Goals.{then-taken-atoms+then-is_same, else-taken-atoms}
use Rattle.chr_base.proofs.lists.take_subsequence_out.Goals.{else-taken-atoms-via-then-taken-atoms+else-is_same}
use Rattle.chr_base.proofs.lists.take_subsequence_out.Goals.{else-taken-atoms-via-else-taken-atoms}

pub loop-i-preserved : goal.loop-i-preserved
loop-i-preserved c =
    let l : c.loop-i.i < length c.loop-i.items.items = omega (arith, c.loop-i.invariant.length, c.len-i-end.ensures) in
    elim c.if-taken-atoms.branch [
      | then-taken-atoms+then-is_same w ↦
          rw (w.items-is, w.kept-is, w.taken-is)
          (passed_at _ _ _ _ _ _ _ _ _ l w.if-taken-atoms.true w.index.ensures w.index-atoms-taken.is
          (sym w.is_same.ensures ∙ w.if-is_same.true) c.loop-i.invariant)
      | else-taken-atoms w ↦ elim w.else-taken-atoms.branch [
        | else-taken-atoms-via-then-taken-atoms+else-is_same v ↦
            rw (w.items-is, w.kept-is, w.taken-is, w.swap.ensures.items)
            (other_at _ _ _ _ _ _ _ _ _ l v.if-taken-atoms.true v.index.ensures v.index-atoms-taken.is
            (sym v.is_same.ensures ∙ v.if-is_same.false) c.loop-i.invariant)
        | else-taken-atoms-via-else-taken-atoms v ↦
            rw (w.items-is, w.kept-is, w.taken-is, w.swap.ensures.items)
            (rest_at _ _ _ _ _ _ _ l v.if-taken-atoms.false c.loop-i.invariant)
      ]
    ]

pub returns : goal.returns
returns c = c.truncate.ensures.items ∙ all_read _ _ _ _ _ _ (omega (arith, c.len-i-end.ensures, c.loop-i-test.false))
    c.loop-i.invariant
