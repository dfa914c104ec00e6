use Rattle.std.proofs.Common.{rules, ap, sym, ◌∙◌, ◌≡◌, true, false, take}
use Rattle.std.specs.Option.{is_some}
use Rattle.std.specs.FinMap as map
use Rattle.chr_ops.specs.Joins.{union}
use Rattle.chr_ops.specs.Summaries.{covers}
use Rattle.chr_ops.proofs.IdsInOrder.{held_before}
use Rattle.chr_ops.proofs.NewLists.{new_more, not_new}
use Rattle.chr_ops.proofs.fresh.are_uncovered.Goals as goal

pub loop-op-preserved : goal.loop-op-preserved
loop-op-preserved c = λ m just.
    let ops = c.args.ops.now in
    let i = c.loop-op.op-index in
    let o = c.op-item.result in
    let asked : c.has.result ≡ covers c.args.covered.now o.0 = rw c.id.ensures at c.has.ensures in
    let held : map.contains_key (union m (take i ops)) o.0 ≡ c.has.result =
    ap is_some (held_before m ops i o c.requires c.loop-op-test.true c.op-item.is) ∙ sym (just o.0) ∙ sym asked in
    let new : c.has.result ≡ false = search rules in
    new_more m ops i o c.loop-op-test.true c.op-item.is (c.loop-op.invariant m just) (held ∙ new)

pub returns-then-has-clause-not : goal.returns-then-has-clause-not
returns-then-has-clause-not c = λ m just.
    let ops = c.args.ops.now in
    let i = c.loop-op.op-index in
    let o = c.op-item.result in
    let asked : c.has.result ≡ covers c.args.covered.now o.0 = rw c.id.ensures at c.has.ensures in
    let held : map.contains_key (union m (take i ops)) o.0 ≡ c.has.result =
    ap is_some (held_before m ops i o c.requires c.loop-op-test.true c.op-item.is) ∙ sym (just o.0) ∙ sym asked in
    let known : c.has.result ≡ true = search rules in
    not_new m ops i o c.loop-op-test.true c.op-item.is (held ∙ known)
