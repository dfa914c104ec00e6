use Rattle.std.proofs.Common.{take, sym, ap, ◌∙◌}
use Rattle.std.proofs.lemmas.Bool.{OnTrue_at}
use Rattle.std.proofs.lemmas.List.{get_or_default}
use Rattle.chr_base.specs.FinBag as bag
use Rattle.chr_base.specs.FinBag.{◌⊕◌}
use Rattle.chr_base.specs.Stores.{stores_sum}
use Rattle.chr_printing.proofs.Pooled.{sum_more}
use Rattle.chr_printing.proofs.pools.tables_of.Goals as goal

pub loop-pool-preserved : goal.loop-pool-preserved
loop-pool-preserved c =
    let pools = c.args.pools.now in
    let i = c.loop-pool.pool-index in
    let p = c.pool-item.result in
    OnTrue_at c.if-not-branch.false c.in_ok-add_tables.ensures ∙ ap (λ s. s ⊕ p) c.loop-pool.invariant
    ∙ ap (λ s. stores_sum (take i pools) ⊕ s) (c.pool-item.is
    ∙ get_or_default pools i p bag.empty c.loop-pool-test.true)
    ∙ sym (sum_more pools i c.loop-pool-test.true)
