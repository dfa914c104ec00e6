use Rattle.std.proofs.Common.{rules, ◌≡◌, ◌<◌, [], length, get_or, sym, ap, subst, ◌∙◌}
use Rattle.std.specs.Prelude.{IfOk}
use Rattle.chr_base.specs.Stores.{store_of}
use Rattle.chr_shards.proofs.Sums.{no_atoms, one_sum, read_more}
use Rattle.chr_shards.proofs.pools.arranged.Goals as goal

pub returns-in-len1 : goal.returns-in-len1
returns-in-len1 c =
    let ss = c.args.pools.now in
    let s = c.pool-item.result in
    let here : s ≡ get_or ss 0 s = search rules in
    subst (λ u. IfOk c.arranged.result (λ atoms. store_of atoms.items ≡ u))
    (sym (one_sum ss s c.in-len1.len_at_least c.in-len1.len_below here)) c.arranged.ensures

pub loop-pool-init : goal.loop-pool-init
loop-pool-init c =
    let none : c.new-atoms.result.items ≡ [] = search rules in no_atoms c.new-atoms.result.items none

pub loop-pool-preserved : goal.loop-pool-preserved
loop-pool-preserved c =
    let ss = c.args.pools.now in
    let k = c.loop-pool.pool-index in
    let s = c.pool-item-in-loop-pool.result in
    let within : k < length ss = search rules in
    let here : s ≡ get_or ss k s = search rules in
    let read : store_of c.deref.result.now ≡ s = ap store_of c.deref.ensures.value ∙ c.in_ok-arranged.ensures in
    read_more ss k s c.loop-pool.atoms.items c.deref.result.now c.push_copies.new.items.items within here
    c.loop-pool.invariant read c.in_ok-push_copies.ensures.ok
