use Rattle.std.proofs.Common.{rules, ◌≡◌, ◌<◌, ◌≤◌, ◌+◌, length, get_or, arith}
use Rattle.chr_shards.proofs.Sums.{waiting_more}
use Rattle.chr_shards.proofs.pools.waiting.Goals as goal

pub loop-pool-preserved : goal.loop-pool-preserved
loop-pool-preserved c =
    let ss = c.args.pools.now in
    let k = c.loop-pool.pool-index in
    let s = c.pool-item.result in
    let within : k < length ss = search rules in
    let here : s ≡ get_or ss k s = search rules in
    let both : c.saturating_add-waiting.result ≤ c.loop-pool.waiting + c.waiting.result =
    (let e = c.saturating_add-waiting.ensures in omega (arith, e)) in
    waiting_more ss k s c.loop-pool.waiting c.waiting.result c.saturating_add-waiting.result within here
    c.loop-pool.invariant c.waiting.ensures both
