use Rattle.std.proofs.Common.{rules, ◌≡◌, ◌<◌, length, get_or, take, refl, ◌∙◌, [], ◌∷◌}
use Rattle.chr_base.specs.FinBag.{◌⊕◌}
use Rattle.chr_base.specs.Stores.{store_of, stores_sum}
use Rattle.chr_shards.proofs.Sums.{none_put_in, one_more_in, in_and_out}
use Rattle.chr_shards.proofs.pools.insert_each.Goals as goal

pub loop-i-init : goal.loop-i-init
loop-i-init c = (c.requires.placed, refl, none_put_in (stores_sum c.args.pools.now.items) [])

pub loop-i-preserved : goal.loop-i-preserved
loop-i-preserved c =
    let i = c.loop-i.i in
    let a = c.index-atoms-i.result in
    let xs = c.args.atoms.now in
    let t = stores_sum c.loop-i.pools.items in
    let within : i < length xs = search rules in
    let here : a ≡ get_or xs i a = search rules in
    let put : stores_sum c.insert_one.new.pools.items ≡ t ⊕ store_of (a ∷ []) = search rules in (
      c.insert_one.ensures.placed,
      c.insert_one.ensures.len ∙ c.loop-i.invariant.1,
      one_more_in (stores_sum c.args.pools.now.items) t (stores_sum c.insert_one.new.pools.items) xs i a within here
          c.loop-i.invariant.2 put,
    )

pub returns-then-is_err-clause-err : goal.returns-then-is_err-clause-err
returns-then-is_err-clause-err c =
    let i = c.loop-i.i in
    let xs = c.args.atoms.now in
    let same : stores_sum c.insert_one.new.pools.items ≡ stores_sum c.loop-i.pools.items = search rules in
    in_and_out (stores_sum c.args.pools.now.items) (stores_sum c.insert_one.new.pools.items)
    (stores_sum c.remove_each.new.pools.items) (take i xs) (same ∙ c.loop-i.invariant.2) c.remove_each.ensures.left
