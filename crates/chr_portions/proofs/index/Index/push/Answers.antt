use Rattle.std.proofs.Common.{◌≡◌, [], ◌∷◌, ◌++◌, length, vec_len, arith, ap, ◌∙◌, w64, to_z, of_z}
use Rattle.std.specs.Prelude.{Some}
use Rattle.std.proofs.Math.Facts.{to_z-of_z}
use Rattle.std.proofs.lemmas.List.{with_items_is}
use Rattle.chr_portions.specs.working.Chains.{AreAlike}
use Rattle.chr_portions.specs.working.Entries.{rows_of}
use Rattle.chr_portions.proofs.Entries.{rows_len, push_next, push_heads, index_push, found_by, rows_push}
use Rattle.chr_portions.proofs.Entries.{rows_alike}
use Rattle.chr_portions.proofs.index.Index.push.Goals as goal

pub link-requires-clause-next : goal.link-requires-clause-next
link-requires-clause-next c =
    let records = c.self.inside.records.items in
    let heads = c.self.inside.heads.items in
    let size : vec_len c.self.inside.records ≡ length records = omega (arith, c.self.inside.records.ok.0) in
    let x = c.live-added.result in
    let whole : c.deref_mut.result.now ≡ records ++ x ∷ [] =
    c.deref_mut.ensures.value ∙ c.push_reserved.ensures.items in
    let slots : c.deref_mut-2.result.now ≡ heads = c.deref_mut-2.ensures.value in
    rw (whole, slots) (push_next records c.self.inside.places.items heads c.self.inside.skips.items c.len-place.result
    x c.self.invariant (c.len-place.ensures ∙ size))

pub link-requires-clause-heads : goal.link-requires-clause-heads
link-requires-clause-heads c =
    let records = c.self.inside.records.items in
    let heads = c.self.inside.heads.items in
    let size : vec_len c.self.inside.records ≡ length records = omega (arith, c.self.inside.records.ok.0) in
    let x = c.live-added.result in
    let whole : c.deref_mut.result.now ≡ records ++ x ∷ [] =
    c.deref_mut.ensures.value ∙ c.push_reserved.ensures.items in
    let slots : c.deref_mut-2.result.now ≡ heads = c.deref_mut-2.ensures.value in
    rw (whole, slots) (push_heads records c.self.inside.places.items heads c.self.inside.skips.items c.len-place.result
    x c.self.invariant (c.len-place.ensures ∙ size))

pub invariant_of-self : goal.invariant_of-self
invariant_of-self c =
    let records = c.self.inside.records.items in
    let places = c.self.inside.places.items in
    let heads = c.self.inside.heads.items in
    let size : vec_len c.self.inside.records ≡ length records = omega (arith, c.self.inside.records.ok.0) in
    let v = ap (λ x. length x.rows) c.self.view_is in
    let many = rows_len records places in
    let placed = c.self.invariant.placed.as_many in
    let few = c.requires.few in
    let n = c.len-place.result in
    let en : n ≡ length records = c.len-place.ensures ∙ size in
    let x = c.live-added.result in
    let whole : c.deref_mut.result.now ≡ records ++ x ∷ [] =
    c.deref_mut.ensures.value ∙ c.push_reserved.ensures.items in
    let slots : c.deref_mut-2.result.now ≡ heads = c.deref_mut-2.ensures.value in
    let long = ap length whole in
    let wide = ap length slots in
    let kept = c.link.ensures.size in
    let as_wide = c.link.ensures.slots in
    let fit = c.push_reserved.ensures.len in
    rw (
      with_items_is c.push_reserved.new.self c.link.new.records
          (omega (arith, kept, c.deref_mut.ensures.len, fit, long)),
      with_items_is c.self.inside.heads c.link.new.heads
          (omega (arith, as_wide, wide, c.self.inside.heads.ok.0)),
      c.push_reserved-2.ensures.items,
    ) (index_push records places heads c.self.inside.skips.items n x c.self.invariant en c.link.new.records
    c.link.new.heads c.live-added.ensures.row (omega (arith, few, v, many, placed)) (rw whole at c.link.ensures.alike)
    (kept ∙ long) (as_wide ∙ wide) (rw slots at c.link.ensures.next) c.link.ensures.heads)

pub returns-clause-rows : goal.returns-clause-rows
returns-clause-rows c =
    let records = c.self.inside.records.items in
    let places = c.self.inside.places.items in
    let size : vec_len c.self.inside.records ≡ length records = omega (arith, c.self.inside.records.ok.0) in
    let n = c.len-place.result in
    let en : n ≡ length records = c.len-place.ensures ∙ size in
    let x = c.live-added.result in
    let whole : c.deref_mut.result.now ≡ records ++ x ∷ [] =
    c.deref_mut.ensures.value ∙ c.push_reserved.ensures.items in
    let long = ap length whole in
    let kept = c.link.ensures.size in
    let fit = c.push_reserved.ensures.len in
    let alike : AreAlike (records ++ x ∷ []) c.link.new.records = rw whole at c.link.ensures.alike in
    rw (
      with_items_is c.push_reserved.new.self c.link.new.records
          (omega (arith, kept, c.deref_mut.ensures.len, fit, long)),
      c.push_reserved-2.ensures.items,
    ) (rows_alike (records ++ x ∷ []) c.link.new.records (places ++ n ∷ []) alike
    ∙ rows_push records places n x c.self.invariant.placed en
    ∙ ap (λ e. rows_of records places ++ e ∷ []) (c.live-added.ensures.entry
    ∙ ap (λ z. found_by c.args.hash z (to_z w64 (of_z w64 c.args.second))) (to_z-of_z c.ranges.first)
    ∙ ap (λ z. found_by c.args.hash c.args.first z) (to_z-of_z c.ranges.second))
    ∙ ap (λ v. v.rows ++ Some (record { hash = c.args.hash; first = c.args.first; second = c.args.second }) ∷ [])
    c.self.view_is)
