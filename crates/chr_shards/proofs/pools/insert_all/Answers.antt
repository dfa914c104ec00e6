use Rattle.std.proofs.Common.{rules, ◌≡◌, ◌<◌, length, get_or}
use Rattle.chr_base.specs.Stores.{store_of}
use Rattle.chr_shards.proofs.Places.{put_ok}
use Rattle.chr_shards.proofs.pools.insert_all.Goals as goal

pub returns-clause-ok : goal.returns-clause-ok
returns-clause-ok c =
    let ss = c.args.pools.now.items in
    let s = c.index_mut.result.now in
    let within : 0 < length ss = search rules in
    let here : s ≡ get_or ss 0 s = search rules in
    put_ok c.args.placing.now ss 0 s c.insert.new.self (store_of c.args.atoms.now) c.requires.placed within here
    c.insert.result c.insert.ensures.ok
