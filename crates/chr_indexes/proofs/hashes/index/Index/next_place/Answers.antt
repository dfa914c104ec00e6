use Rattle.std.proofs.Common.{◌%◌, ap, ◌∙◌, arith, length, get_or}
use Rattle.std.specs.Prelude.{None}
use Rattle.std.proofs.lemmas.List.{with_items_is}
use Rattle.chr_indexes.specs.working.HashEntries.{hashes_of, flags_of}
use Rattle.chr_indexes.proofs.HashFields.{length_hashes}
use Rattle.chr_indexes.proofs.HashRows.{next_above, entry_of, slot_at}
use Rattle.chr_indexes.proofs.hashes.index.Index.next_place.Goals as goal

pub next_live-at-requires-clause-row : goal.next_live-at-requires-clause-row
next_live-at-requires-clause-row c =
    let w = entry_of (hashes_of c.self.inside.rows.items) (flags_of c.self.inside.rows.items) c.args.row c.args.hash
    (ap (λ x. get_or x.rows c.args.row None) c.self.view_is ∙ c.requires) in
    let l = w.0 in
    let n = length_hashes c.self.inside.rows.items in
    let whole = ap length c.deref_mut.ensures.value in
    omega (arith, n, l, whole)

pub seek-requires-clause-live : goal.seek-requires-clause-live
seek-requires-clause-live c = λ p.
    let w = entry_of (hashes_of c.self.inside.rows.items) (flags_of c.self.inside.rows.items) c.args.row c.args.hash
    (ap (λ x. get_or x.rows c.args.row None) c.self.view_is ∙ c.requires) in
    let whole = ap length c.deref_mut.ensures.value in
    let size = c.next_live-at.ensures.size in
    let back = with_items_is c.self.inside.rows c.next_live-at.new.rows
    (omega (arith, size, whole, c.self.inside.rows.ok.0)) in
    let here = rw (c.deref_mut.ensures.value, c.deref.ensures.value) at (c.next_live-at.ensures.live p) in
    rw (
      c.deref_mut-2.ensures.value,
      back,
      c.next_live-at.ensures.hashes,
      c.next_live-at.ensures.flags,
      c.deref_mut.ensures.value,
      c.deref-2.ensures.value,
    ) (
      here.0 ∙ slot_at (length c.self.inside.heads.items) (hashes_of c.self.inside.rows.items) c.args.row w.0
          ∙ ap (λ h. h % length c.self.inside.heads.items) w.2,
      here.1,
    )

pub returns-clause-none_between : goal.returns-clause-none_between
returns-clause-none_between c = λ r l e.
    let whole = ap length c.deref_mut.ensures.value in
    let size = c.next_live-at.ensures.size in
    let back = with_items_is c.self.inside.rows c.next_live-at.new.rows
    (omega (arith, size, whole, c.self.inside.rows.ok.0)) in
    next_above (length c.self.inside.heads.items) (hashes_of c.self.inside.rows.items)
    (flags_of c.self.inside.rows.items) c.args.hash c.args.row c.next_live-at.result c.seek.result r
    (ap (λ x. get_or x.rows c.args.row None) c.self.view_is ∙ c.requires)
    (rw (c.deref_mut.ensures.value, c.deref.ensures.value) at c.next_live-at.ensures.none_between)
    (rw (
      c.deref_mut-2.ensures.value,
      back,
      c.next_live-at.ensures.hashes,
      c.next_live-at.ensures.flags,
      c.deref_mut.ensures.value,
    ) at c.seek.ensures.none_between)
    l (ap (λ x. get_or x.rows r None) c.self.view_is ∙ e)
