use Rattle.std.proofs.Common.{ap, ◌∙◌, arith, length, get_or}
use Rattle.std.specs.Prelude.{None}
use Rattle.std.proofs.lemmas.List.{with_items_is}
use Rattle.chr_indexes.specs.working.HashEntries.{hashes_of, flags_of}
use Rattle.chr_indexes.proofs.HashFields.{length_hashes}
use Rattle.chr_indexes.proofs.HashRows.{here_above}
use Rattle.chr_indexes.proofs.hashes.index.Index.place_at_or_below.Goals as goal

pub returns-clause-none_between : goal.returns-clause-none_between
returns-clause-none_between c = λ r l e.
    let here = rw c.deref.ensures.value at c.if-not-is_at.ensures in
    let low = here.0 in
    let n = length_hashes c.self.inside.rows.items in
    let whole = ap length c.deref_mut.ensures.value in
    let size = c.live_from-at.ensures.size in
    let back = with_items_is c.self.inside.rows c.live_from-at.new.rows
    (omega (arith, size, whole, c.self.inside.rows.ok.0)) in
    here_above (length c.self.inside.heads.items) (hashes_of c.self.inside.rows.items)
    (flags_of c.self.inside.rows.items) c.args.hash c.args.row c.live_from-at.result c.seek.result r
    (omega (arith, low, n)) here.1
    (rw (c.deref_mut.ensures.value, c.deref-2.ensures.value) at c.live_from-at.ensures.none_between)
    (rw (
      c.deref_mut-2.ensures.value,
      back,
      c.live_from-at.ensures.hashes,
      c.live_from-at.ensures.flags,
      c.deref_mut.ensures.value,
    ) at c.seek.ensures.none_between)
    l (ap (λ x. get_or x.rows r None) c.self.view_is ∙ e)
