use Rattle.std.proofs.Common.{[], ◌∷◌, ◌++◌, length, get_or, refl, sym, ap, ◌∙◌, arith}
use Rattle.std.specs.Prelude.{Some}
use Rattle.std.proofs.lemmas.List.{length-set}
use Rattle.std.proofs.Math.Seq.{map-set_same}
use Rattle.chr_plans.specs.Keys.{key_of}
use Rattle.chr_tables.specs.Hashes.{key_hash}
use Rattle.chr_tables.specs.working.Finders.{room_in}
use Rattle.chr_tables.specs.working.Indexes.{no_way, way_of, atom_entry, ways_of}
use Rattle.chr_tables.specs.declared.indexes.Keyed.{Keyed}
use Rattle.chr_tables.proofs.Walks.{done_more, left_more}
use Rattle.chr_tables.proofs.Lives.{entries_at, entries_set, length_entries, way_at, rooms_at, same_way}
use Rattle.chr_tables.proofs.indexes.push_in.Goals as goal

pub push-requires-clause-room : goal.push-requires-clause-room
push-requires-clause-room c =
    let g = c.loop-i-test.true in
    let len = c.loop-i.invariant.len in
    let here = ap length (sym (entries_at c.loop-i.indexes c.loop-i.i c.index-indexes-i-in-loop-i.result
    (omega (arith, g, len))) ∙ c.loop-i.invariant.left c.loop-i.i (omega arith)) in
    let room = sym (rooms_at c.loop-i.indexes c.loop-i.i c.index-indexes-i-in-loop-i.result (omega (arith, g, len)))
    ∙ ap (λ xs. get_or xs c.loop-i.i 0) c.loop-i.invariant.rooms in
    let r = c.requires.room c.loop-i.i (omega (arith, g, len)) in
    omega (arith, here, room, r)

pub push-requires-clause-few : goal.push-requires-clause-few
push-requires-clause-few c =
    let g = c.loop-i-test.true in
    let len = c.loop-i.invariant.len in
    let here = ap length (sym (entries_at c.loop-i.indexes c.loop-i.i c.index-indexes-i-in-loop-i.result
    (omega (arith, g, len))) ∙ c.loop-i.invariant.left c.loop-i.i (omega arith)) in
    let r = c.requires.few c.loop-i.i (omega (arith, g, len)) in
    omega (arith, here, r)

pub loop-i-preserved : goal.loop-i-preserved
loop-i-preserved c =
    let n = length_entries c.loop-i.indexes in
    let g = c.loop-i-test.true in
    let len = c.loop-i.invariant.len in
    let here = sym (entries_at c.loop-i.indexes c.loop-i.i c.index-indexes-i-in-loop-i.result (omega (arith, g, len)))
    ∙ c.loop-i.invariant.left c.loop-i.i (omega arith) in
    let way = sym (way_at c.loop-i.indexes c.loop-i.i c.index-indexes-i.result (omega (arith, g, len)))
    ∙ ap (λ ws. get_or ws c.loop-i.i no_way) c.loop-i.invariant.ways in
    let found = sym (way_at c.loop-i.indexes c.loop-i.i c.index-indexes-i-in-loop-i.result (omega (arith, g, len)))
    ∙ ap (λ ws. get_or ws c.loop-i.i no_way) c.loop-i.invariant.ways in
    let hash = c.hash_of-hash.ensures ∙ ap (λ w. key_hash w.seed (key_of w.columns c.args.atom.now)) way in
    let values = ap (λ w. key_of w.order c.args.atom.now) found in
    record {
      len = length-set c.loop-i.indexes _ _ ∙ len;
      ways = map-set_same way_of c.loop-i.indexes c.loop-i.i _ c.index-indexes-i-in-loop-i.result
          (same_way _ _ refl refl c.push.ensures.order) ∙ c.loop-i.invariant.ways;
      rooms = map-set_same (λ (k : Keyed). room_in k.index) c.loop-i.indexes c.loop-i.i _
          c.index-indexes-i-in-loop-i.result c.push.ensures.room ∙ c.loop-i.invariant.rooms;
      done = λ j h. (rw (entries_set c.loop-i.indexes c.loop-i.i)
          (done_more _ _ [] c.loop-i.i _ (λ k xs. xs ++ Some
          (atom_entry (get_or (ways_of c.args.indexes.now) k no_way) c.args.atom.now) ∷ [])
          (omega (arith, n, g, len)) c.loop-i.invariant.done
          (c.push.ensures.rows ∙ (λ i. here i ++ Some (record { hash = hash i; values = values i }) ∷ [])) j h));
      left = λ j h. (rw (entries_set c.loop-i.indexes c.loop-i.i)
          (left_more _ _ [] c.loop-i.i _ c.loop-i.invariant.left j h));
    }
