use Rattle.std.proofs.Common.{◌≡◌, ◌<◌, [], length, get_or, set, refl, sym, ap, ◌∙◌, arith, inl, inr}
use Rattle.std.proofs.lemmas.List.{length-set, get_or-set_other, get_or-set_same}
use Rattle.std.proofs.lemmas.Bool.{cases_lt}
use Rattle.std.proofs.Math.Seq.{map-set_same}
use Rattle.chr_tables.specs.working.Indexes.{way_of, keyed_entries, rooms_of}
use Rattle.chr_tables.specs.working.Finders.{finder_rows, room_in}
use Rattle.chr_tables.specs.declared.indexes.Keyed.{Keyed}
use Rattle.chr_tables.proofs.Lives.{entries_at, rooms_set, length_rooms, same_way}
use Rattle.chr_tables.proofs.indexes.reserve_in.Goals as goal

pub reserve-requires : goal.reserve-requires
reserve-requires c =
    let g = c.loop-i-test.true in
    let len = c.loop-i.invariant.len in
    let here = ap length (sym (entries_at c.loop-i.indexes c.loop-i.i c.index-indexes-i.result (omega (arith, g, len)))
    ∙ ap (λ xs. get_or xs c.loop-i.i []) c.loop-i.invariant.rows) in
    let few = c.requires c.loop-i.i (omega (arith, g, len)) in
    omega (arith, here, few)

pub returns-in_err-reserve-clause-ways : goal.returns-in_err-reserve-clause-ways
returns-in_err-reserve-clause-ways c = map-set_same way_of c.loop-i.indexes c.loop-i.i _ c.index-indexes-i.result
    (same_way _ _ refl refl c.in_err-reserve.ensures.order) ∙ c.loop-i.invariant.ways

pub returns-in_err-reserve-clause-rows : goal.returns-in_err-reserve-clause-rows
returns-in_err-reserve-clause-rows c = map-set_same (λ (k : Keyed). finder_rows k.index) c.loop-i.indexes c.loop-i.i _
    c.index-indexes-i.result c.in_err-reserve.ensures.rows ∙ c.loop-i.invariant.rows

pub loop-i-preserved : goal.loop-i-preserved
loop-i-preserved c =
    let g = c.loop-i-test.true in
    let len = c.loop-i.invariant.len in
    let n = length_rooms c.loop-i.indexes in
    let here = ap length (sym (entries_at c.loop-i.indexes c.loop-i.i c.index-indexes-i.result (omega (arith, g, len)))
    ∙ ap (λ xs. get_or xs c.loop-i.i []) c.loop-i.invariant.rows) in
    let ok = c.in_ok-reserve.ensures.ok in
    record {
      len = length-set c.loop-i.indexes _ _ ∙ len;
      ways = map-set_same way_of c.loop-i.indexes c.loop-i.i _ c.index-indexes-i.result
          (same_way _ _ refl refl c.in_ok-reserve.ensures.order) ∙ c.loop-i.invariant.ways;
      rows = map-set_same (λ (k : Keyed). finder_rows k.index) c.loop-i.indexes c.loop-i.i _ c.index-indexes-i.result
          c.in_ok-reserve.ensures.rows ∙ c.loop-i.invariant.rows;
      done = λ j h. (rw (rooms_set c.loop-i.indexes c.loop-i.i)
          (elim (cases_lt j c.loop-i.i) as (λ _. length (get_or (keyed_entries c.args.indexes.now) j []) < get_or
          (set (rooms_of c.loop-i.indexes) c.loop-i.i (room_in c.reserve.new.self)) j 0) [
            | inl less ↦ (let e = get_or-set_other (rooms_of c.loop-i.indexes) c.loop-i.i j
                (room_in c.reserve.new.self) 0
                (λ p. (absurd (omega (arith, p, less)))) in let d = c.loop-i.invariant.done j less in
                omega (arith, e, d))
            | inr most ↦ (let p : j ≡ c.loop-i.i = omega (arith, h, most) in
                let e = ap (λ k. get_or (set (rooms_of c.loop-i.indexes) c.loop-i.i (room_in c.reserve.new.self)) k 0) p
                ∙ get_or-set_same (rooms_of c.loop-i.indexes) c.loop-i.i (room_in c.reserve.new.self) 0
                (omega (arith, n, g, len)) in
                let q = ap (λ k. length (get_or (keyed_entries c.args.indexes.now) k [])) p in
                omega (arith, e, here, ok, q))
          ]));
    }
