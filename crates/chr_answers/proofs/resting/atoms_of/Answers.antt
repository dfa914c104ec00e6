use Rattle.std.proofs.Common.{rules, ◌≡◌, ◌++◌, ◌∙◌, ap, sym}
use Rattle.chr_base.specs.Atoms.{atom_cmp}
use Rattle.chr_base.specs.FinBag as bag
use Rattle.chr_base.specs.FinBag.{◌⊕◌}
use Rattle.chr_base.specs.Stores.{store_of}
use Rattle.chr_base.proofs.FinBags.{of_list-none}
use Rattle.chr_base.proofs.Stores.{store_of-append, store_of-items}
use Rattle.chr_answers.proofs.Rested.{sum_more}
use Rattle.chr_answers.proofs.resting.atoms_of.Goals as goal

pub loop-op-init : goal.loop-op-init
loop-op-init c = ap store_of c.new-atoms.ensures.items ∙ of_list-none atom_cmp

pub loop-op-preserved : goal.loop-op-preserved
loop-op-preserved c =
    let ops = c.args.ops.now in
    let o = c.op-item.result in
    let before = c.loop-op.atoms.items in
    let atoms : c.atoms.result.now ≡ bag.items o.1 = search rules in
    let put : c.push_copies.new.items.items ≡ before ++ c.atoms.result.now = search rules in
    ap store_of put ∙ store_of-append before c.atoms.result.now
    ∙ (λ i. c.loop-op.invariant i ⊕ (ap store_of atoms ∙ store_of-items o.1) i)
    ∙ sym (sum_more ops c.loop-op.op-index o c.loop-op-test.true c.op-item.is)
