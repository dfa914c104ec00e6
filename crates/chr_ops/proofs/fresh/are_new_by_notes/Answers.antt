use Rattle.std.proofs.Common.{rules, sym, ◌∙◌, ◌≡◌, ◌||◌, true, false, not}
use Rattle.std.proofs.lemmas.Bool.{not-true, not-false}
use Rattle.std.specs.Ordering.{eq_by_cmp}
use Rattle.chr_ops.specs.declared.id.OpId.{OpId}
use Rattle.chr_ops.specs.Ids.{id_cmp}
use Rattle.chr_ops.specs.working.Joining.{is_held_or_seen}
use Rattle.chr_ops.proofs.FreshSteps.{known_first, known_more}
use Rattle.chr_ops.proofs.NewLists.{new_more, not_new}
use Rattle.chr_ops.proofs.fresh.are_new_by_notes.Goals as goal

pub loop-op-init : goal.loop-op-init
loop-op-init c = record {
  new = tt;
  known = known_first c.args.held.now c.new-seen.result c.new-seen.ensures.empty;
}

pub loop-op-preserved : goal.loop-op-preserved
loop-op-preserved c =
    let m = c.args.held.now in
    let ops = c.args.ops.now in
    let i = c.loop-op.op-index in
    let o = c.op-item.result in
    let noted : (q : OpId) → is_held_or_seen m c.take_note.new.seen q
    ≡ (is_held_or_seen m c.loop-op.seen q || eq_by_cmp id_cmp q o.0) =
    rw c.id.ensures at c.in_ok-take_note.ensures.known in
    let asked : c.in_ok-take_note.field-0 ≡ not (is_held_or_seen m c.loop-op.seen o.0) =
    rw c.id.ensures at c.in_ok-take_note.ensures.fresh in
    let is_new : c.in_ok-take_note.field-0 ≡ true = search rules in
    let unknown : is_held_or_seen m c.loop-op.seen o.0 ≡ false =
    not-true (is_held_or_seen m c.loop-op.seen o.0) (sym asked ∙ is_new) in
    record {
      new = new_more m ops i o c.loop-op-test.true c.op-item.is c.loop-op.invariant.new
          (c.loop-op.invariant.known o.0 ∙ unknown);
      known = known_more m ops i o c.loop-op-test.true c.op-item.is c.loop-op.seen c.take_note.new.seen
          c.loop-op.invariant.known noted;
    }

pub returns-then-not-branch-clause-not : goal.returns-then-not-branch-clause-not
returns-then-not-branch-clause-not c =
    let m = c.args.held.now in
    let ops = c.args.ops.now in
    let i = c.loop-op.op-index in
    let o = c.op-item.result in
    let asked : c.in_ok-take_note.field-0 ≡ not (is_held_or_seen m c.loop-op.seen o.0) =
    rw c.id.ensures at c.in_ok-take_note.ensures.fresh in
    let is_old : c.in_ok-take_note.field-0 ≡ false = search rules in
    let known : is_held_or_seen m c.loop-op.seen o.0 ≡ true =
    not-false (is_held_or_seen m c.loop-op.seen o.0) (sym asked ∙ is_old) in
    not_new m ops i o c.loop-op-test.true c.op-item.is (c.loop-op.invariant.known o.0 ∙ known)
