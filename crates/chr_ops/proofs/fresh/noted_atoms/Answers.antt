use Rattle.std.proofs.Common.{ap, sym, ◌∙◌, ◌≡◌, ◌||◌, ◌++◌, true, false, not}
use Rattle.std.proofs.lemmas.Bool.{not-true, not-false}
use Rattle.std.specs.Ordering.{eq_by_cmp}
use Rattle.chr_base.specs.Atoms.{atom_cmp}
use Rattle.chr_base.specs.FinBag as bag
use Rattle.chr_base.proofs.FinBags as bag_laws
use Rattle.chr_base.specs.Stores.{store_of}
use Rattle.chr_ops.specs.declared.id.OpId.{OpId}
use Rattle.chr_ops.specs.Ids.{id_cmp}
use Rattle.chr_ops.specs.working.Joining.{is_held_or_seen}
use Rattle.chr_ops.proofs.FreshSteps.{known_first, known_more, atoms_more, atoms_kept}
use Rattle.chr_ops.proofs.fresh.noted_atoms.Goals as goal
use Rattle.chr_ops.proofs.fresh.noted_atoms.Goals.{then-branch+in_ok-push_copies, else-branch}

pub loop-op-init : goal.loop-op-init
loop-op-init c = record {
  atoms = ap store_of c.new-atoms.ensures.items ∙ bag_laws.of_list-none atom_cmp;
  known = known_first c.args.held.now c.new-seen.result c.new-seen.ensures.empty;
}

pub loop-op-preserved : goal.loop-op-preserved
loop-op-preserved c =
    let m = c.args.held.now in
    let ops = c.args.ops.now in
    let i = c.loop-op.op-index in
    let o = c.op-item.result in
    let noted : (q : OpId) → is_held_or_seen m c.take_note.new.seen q
    ≡ (is_held_or_seen m c.loop-op.seen q || eq_by_cmp id_cmp q o.0) =
    rw c.id.ensures at c.in_ok-take_note.ensures.known in
    let asked : c.in_ok-take_note.field-0 ≡ not (is_held_or_seen m c.loop-op.seen o.0) =
    rw c.id.ensures at c.in_ok-take_note.ensures.fresh in
    record {
      atoms = elim c.if-branch.branch [
        | then-branch+in_ok-push_copies w ↦
            let new : is_held_or_seen m c.loop-op.seen o.0 ≡ false =
            not-true (is_held_or_seen m c.loop-op.seen o.0) (sym asked ∙ w.if-branch.true) in
            let more : c.if-branch.atoms.items ≡ c.loop-op.atoms.items ++ bag.items o.1 = ap (λ v. v.items) w.atoms-is
            ∙ w.in_ok-push_copies.ensures.ok ∙ ap (λ xs. c.loop-op.atoms.items ++ xs) w.atoms.ensures
            ∙ ap (λ b. c.loop-op.atoms.items ++ bag.items b) w.bag.ensures.bag in
            atoms_more m ops i o c.loop-op-test.true c.op-item.is c.loop-op.atoms.items c.if-branch.atoms.items
            c.loop-op.invariant.atoms (c.loop-op.invariant.known o.0 ∙ new) more
        | else-branch w ↦
            let old : is_held_or_seen m c.loop-op.seen o.0 ≡ true =
            not-false (is_held_or_seen m c.loop-op.seen o.0) (sym asked ∙ w.if-branch.false) in
            rw w.atoms-is (atoms_kept m ops i o c.loop-op-test.true c.op-item.is c.loop-op.atoms.items
            c.loop-op.invariant.atoms (c.loop-op.invariant.known o.0 ∙ old))
      ];
      known = known_more m ops i o c.loop-op-test.true c.op-item.is c.loop-op.seen c.take_note.new.seen
          c.loop-op.invariant.known noted;
    }
