use Rattle.std.proofs.Common.{◌≡◌, ◌≤◌, [], length, get_or, set, refl, sym, ap, ◌∙◌, arith, inl, inr}
use Rattle.std.proofs.lemmas.List.{length-set, get_or-set_other, get_or-set_same}
use Rattle.std.proofs.lemmas.Bool.{cases_lt}
use Rattle.std.proofs.Math.Seq.{map-set_same}
use Rattle.chr_tables.specs.working.Indexes.{way_of, keyed_entries, rooms_of}
use Rattle.chr_tables.specs.working.Finders.{room_in}
use Rattle.chr_tables.proofs.Walks.{done_more, left_more}
use Rattle.chr_tables.proofs.Lives.{entries_at, entries_set, length_entries, rooms_set, length_rooms, same_way}
use Rattle.chr_tables.proofs.indexes.clear_in.Goals as goal

pub loop-i-preserved : goal.loop-i-preserved
loop-i-preserved c =
    let g = c.loop-i-test.true in
    let len = c.loop-i.invariant.len in
    let n = length_entries c.loop-i.indexes in
    let m = length_rooms c.loop-i.indexes in
    let here = ap length (sym (entries_at c.loop-i.indexes c.loop-i.i c.index-indexes-i.result (omega (arith, g, len)))
    ∙ c.loop-i.invariant.left c.loop-i.i (omega arith)) in
    let fits = c.clear.ensures.fits in
    record {
      len = length-set c.loop-i.indexes _ _ ∙ len;
      ways = map-set_same way_of c.loop-i.indexes c.loop-i.i _ c.index-indexes-i.result
          (same_way _ _ refl refl c.clear.ensures.order) ∙ c.loop-i.invariant.ways;
      done = λ j h. (rw (entries_set c.loop-i.indexes c.loop-i.i)
          (done_more _ (keyed_entries c.args.indexes.now) []
          c.loop-i.i _ (λ _ xs. []) (omega (arith, n, g, len)) c.loop-i.invariant.done c.clear.ensures.rows j h));
      fits = λ j h. (rw (rooms_set c.loop-i.indexes c.loop-i.i)
          (elim (cases_lt j c.loop-i.i) as (λ _. length (get_or (keyed_entries c.args.indexes.now) j []) ≤ get_or
          (set (rooms_of c.loop-i.indexes) c.loop-i.i (room_in c.clear.new.self)) j 0) [
            | inl less ↦ (let e = get_or-set_other (rooms_of c.loop-i.indexes) c.loop-i.i j (room_in c.clear.new.self) 0
                (λ p. (absurd (omega (arith, p, less)))) in let d = c.loop-i.invariant.fits j less in
                omega (arith, e, d))
            | inr most ↦ (let p : j ≡ c.loop-i.i = omega (arith, h, most) in
                let e = ap (λ k. get_or (set (rooms_of c.loop-i.indexes) c.loop-i.i (room_in c.clear.new.self)) k 0) p
                ∙ get_or-set_same (rooms_of c.loop-i.indexes) c.loop-i.i (room_in c.clear.new.self) 0
                (omega (arith, m, g, len)) in
                let q = ap (λ k. length (get_or (keyed_entries c.args.indexes.now) k [])) p in
                omega (arith, e, here, fits, q))
          ]));
      left = λ j h. (rw (entries_set c.loop-i.indexes c.loop-i.i)
          (left_more _ _ [] c.loop-i.i _ c.loop-i.invariant.left j h));
    }
