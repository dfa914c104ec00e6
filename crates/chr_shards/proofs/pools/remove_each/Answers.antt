use Rattle.std.proofs.Common.{rules, ◌≡◌, ◌<◌, ◌≤◌, ◌-◌, length, get_or, refl, ◌∙◌}
use Rattle.chr_base.specs.Stores.{stores_sum}
use Rattle.chr_shards.proofs.Sums.{none_taken_out, one_more_out}
use Rattle.chr_shards.proofs.pools.remove_each.Goals as goal

pub loop-i-init : goal.loop-i-init
loop-i-init c =
    (c.requires.placed, refl, none_taken_out (stores_sum c.args.pools.now.items) c.args.atoms.now)

pub loop-i-preserved : goal.loop-i-preserved
loop-i-preserved c =
    let i = c.loop-i.i in
    let a = c.index-atoms-i.result in
    let xs = c.args.atoms.now in
    let some : 0 < i = search rules in
    let within : i ≤ length xs = search rules in
    let here : a ≡ get_or xs (i - 1) a = search rules in (
      c.remove_one.ensures.placed,
      c.remove_one.ensures.len ∙ c.loop-i.invariant.1,
      one_more_out (stores_sum c.args.pools.now.items) (stores_sum c.loop-i.pools.items)
          (stores_sum c.remove_one.new.pools.items) xs i a some within here c.loop-i.invariant.2
          c.remove_one.ensures.left,
    )
