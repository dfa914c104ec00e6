use Rattle.std.proofs.Common.{rules, ◌≡◌, ◌<◌, length, get_or, subst}
use Rattle.std.specs.Prelude.{OnOk}
use Rattle.chr_base.specs.FinBag.{◌⊕◌}
use Rattle.chr_base.specs.Stores.{store_of}
use Rattle.chr_plans.specs.Actives.{one}
use Rattle.chr_shards.specs.working.Placed.{place_in}
use Rattle.chr_shards.proofs.Places.{one_lies, put_placed, put_ok, put_err, put_most}
use Rattle.chr_shards.proofs.pools.insert_one.Goals as goal

pub returns-clause-placed : goal.returns-clause-placed
returns-clause-placed c =
    let ss = c.args.pools.now.items in
    let k = c.place-place.result in
    let s = c.index_mut.result.now in
    let t = c.insert.new.self in
    let a = c.args.atom.now in
    let within : k < length ss = search rules in
    let here : s ≡ get_or ss k s = search rules in
    let place : k ≡ place_in c.args.placing.now (length ss) a = search rules in
    let ok : OnOk c.insert.result (t ≡ s ⊕ one a) =
    subst (λ xs. OnOk c.insert.result (t ≡ s ⊕ store_of xs)) c.from_ref.ensures.value c.insert.ensures.ok in
    put_placed c.args.placing.now ss k s t (one a) c.requires.placed within here
    (one_lies c.args.placing.now (length ss) k a place)
    (put_most c.args.placing.now ss k s t (one a) c.requires.placed within here c.insert.result ok
    c.insert.ensures.err)

pub returns-clause-ok : goal.returns-clause-ok
returns-clause-ok c =
    let ss = c.args.pools.now.items in
    let k = c.place-place.result in
    let s = c.index_mut.result.now in
    let t = c.insert.new.self in
    let a = c.args.atom.now in
    let within : k < length ss = search rules in
    let here : s ≡ get_or ss k s = search rules in
    let ok : OnOk c.insert.result (t ≡ s ⊕ one a) =
    subst (λ xs. OnOk c.insert.result (t ≡ s ⊕ store_of xs)) c.from_ref.ensures.value c.insert.ensures.ok in
    put_ok c.args.placing.now ss k s t (one a) c.requires.placed within here c.insert.result ok

pub returns-clause-err : goal.returns-clause-err
returns-clause-err c =
    let ss = c.args.pools.now.items in
    let k = c.place-place.result in
    let s = c.index_mut.result.now in
    let within : k < length ss = search rules in
    let here : s ≡ get_or ss k s = search rules in
    put_err c.args.placing.now ss k s c.insert.new.self (one c.args.atom.now) c.requires.placed within here
    c.insert.result c.insert.ensures.err
