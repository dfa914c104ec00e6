use Rattle.std.proofs.Common.{rules, ◌≡◌, ◌<◌, length, get_or, subst}
use Rattle.std.specs.Prelude.{IsTrue, ◌↔◌}
use Rattle.std.specs.Bool.{OnTrue}
use Rattle.chr_base.specs.FinBag.{◌⊖◌, IsWithin}
use Rattle.chr_base.specs.Stores.{store_of}
use Rattle.chr_plans.specs.Actives.{one}
use Rattle.chr_shards.specs.working.Placed.{place_in}
use Rattle.chr_shards.proofs.Places.{one_lies, one_taken, take_placed, take_sum}
use Rattle.chr_shards.proofs.pools.remove_one.Goals as goal

pub returns-clause-placed : goal.returns-clause-placed
returns-clause-placed c =
    let ss = c.args.pools.now.items in
    let k = c.place-place.result in
    let s = c.index_mut.result.now in
    let t = c.remove.new.self in
    let a = c.args.atom.now in
    let b = c.remove.result in
    let within : k < length ss = search rules in
    let here : s ≡ get_or ss k s = search rules in
    let taken = one_taken b s t a
    (subst (λ xs. IsTrue b ↔ IsWithin (store_of xs) s) c.from_ref.ensures.value c.remove.ensures.there)
    (subst (λ xs. OnTrue b (t ≡ s ⊖ store_of xs)) c.from_ref.ensures.value c.remove.ensures.taken)
    c.remove.ensures.kept in
    take_placed c.args.placing.now ss k s t (one a) c.requires.placed within here taken

pub returns-clause-left : goal.returns-clause-left
returns-clause-left c =
    let ss = c.args.pools.now.items in
    let k = c.place-place.result in
    let s = c.index_mut.result.now in
    let t = c.remove.new.self in
    let a = c.args.atom.now in
    let b = c.remove.result in
    let within : k < length ss = search rules in
    let here : s ≡ get_or ss k s = search rules in
    let place : k ≡ place_in c.args.placing.now (length ss) a = search rules in
    let taken = one_taken b s t a
    (subst (λ xs. IsTrue b ↔ IsWithin (store_of xs) s) c.from_ref.ensures.value c.remove.ensures.there)
    (subst (λ xs. OnTrue b (t ≡ s ⊖ store_of xs)) c.from_ref.ensures.value c.remove.ensures.taken)
    c.remove.ensures.kept in
    take_sum c.args.placing.now ss k s t (one a) c.requires.placed within here
    (one_lies c.args.placing.now (length ss) k a place) taken
