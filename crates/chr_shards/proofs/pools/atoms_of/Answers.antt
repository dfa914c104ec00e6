use Rattle.std.proofs.Common.{rules, ◌≡◌, ◌<◌, [], length, get_or}
use Rattle.chr_shards.proofs.Sums.{no_atoms, added_more}
use Rattle.chr_shards.proofs.pools.atoms_of.Goals as goal

pub loop-pool-init : goal.loop-pool-init
loop-pool-init c =
    let none : c.new-atoms.result.items ≡ [] = search rules in no_atoms c.new-atoms.result.items none

pub loop-pool-preserved : goal.loop-pool-preserved
loop-pool-preserved c =
    let ss = c.args.pools.now in
    let k = c.loop-pool.pool-index in
    let s = c.pool-item.result in
    let within : k < length ss = search rules in
    let here : s ≡ get_or ss k s = search rules in
    added_more ss k s c.loop-pool.atoms.items c.push_atoms.new.atoms.items within here c.loop-pool.invariant
    c.in_ok-push_atoms.ensures.ok
