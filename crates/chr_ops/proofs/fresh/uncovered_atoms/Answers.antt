use Rattle.std.proofs.Common.{rules, ap, sym, ◌∙◌, ◌≡◌, ◌++◌, true, false, take}
use Rattle.std.specs.Option.{is_some}
use Rattle.std.specs.FinMap as map
use Rattle.chr_base.specs.Atoms.{atom_cmp}
use Rattle.chr_base.specs.FinBag as bag
use Rattle.chr_base.proofs.FinBags as bag_laws
use Rattle.chr_base.specs.Stores.{store_of}
use Rattle.chr_ops.specs.Joins.{union}
use Rattle.chr_ops.specs.Summaries.{covers}
use Rattle.chr_ops.proofs.FreshSteps.{atoms_more, atoms_kept}
use Rattle.chr_ops.proofs.IdsInOrder.{held_before}
use Rattle.chr_ops.proofs.fresh.uncovered_atoms.Goals as goal
use Rattle.chr_ops.proofs.fresh.uncovered_atoms.Goals.{then-not-has+in_ok-push_copies, else-not-has}

pub loop-op-init : goal.loop-op-init
loop-op-init c = λ m just. ap store_of c.in_ok-atoms.ensures.items ∙ bag_laws.of_list-none atom_cmp

pub loop-op-preserved : goal.loop-op-preserved
loop-op-preserved c = λ m just.
    let ops = c.args.ops.now in
    let i = c.loop-op.op-index in
    let o = c.op-item.result in
    let before = c.loop-op.invariant m just in
    let asked : c.has.result ≡ covers c.args.covered.now o.0 = rw c.id.ensures at c.has.ensures in
    let held : map.contains_key (union m (take i ops)) o.0 ≡ c.has.result =
    ap is_some (held_before m ops i o c.requires c.loop-op-test.true c.op-item.is) ∙ sym (just o.0) ∙ sym asked in
    elim c.if-not-has.branch [
      | then-not-has+in_ok-push_copies w ↦
          let new : c.has.result ≡ false = search rules in
          let more : c.if-not-has.atoms.items ≡ c.loop-op.atoms.items ++ bag.items o.1 = ap (λ v. v.items) w.atoms-is
          ∙ w.in_ok-push_copies.ensures.ok ∙ ap (λ xs. c.loop-op.atoms.items ++ xs) w.atoms.ensures
          ∙ ap (λ b. c.loop-op.atoms.items ++ bag.items b) w.bag.ensures.bag in
          atoms_more m ops i o c.loop-op-test.true c.op-item.is c.loop-op.atoms.items c.if-not-has.atoms.items before
          (held ∙ new) more
      | else-not-has w ↦
          let old : c.has.result ≡ true = search rules in
          rw w.atoms-is (atoms_kept m ops i o c.loop-op-test.true c.op-item.is c.loop-op.atoms.items before
          (held ∙ old))
    ]
