use Rattle.std.proofs.Common.{◌≡◌, ◌%◌, vec_len, ap, sym, ◌∙◌, arith, length, get_or}
use Rattle.std.specs.Prelude.{None}
use Rattle.chr_indexes.specs.working.HashEntries.{hashes_of, flags_of}
use Rattle.chr_indexes.proofs.HashFields.{length_hashes}
use Rattle.chr_indexes.proofs.HashRows.{first_above}
use Rattle.chr_indexes.proofs.hashes.index.Index.first_place.Goals as goal

pub returns-clause-none_above : goal.returns-clause-none_above
returns-clause-none_above c = λ r e.
    let size : vec_len c.self.inside.heads ≡ length c.self.inside.heads.items =
    omega (arith, c.self.inside.heads.ok.0) in
    let n = length_hashes c.self.inside.rows.items in
    first_above (length c.self.inside.heads.items) (hashes_of c.self.inside.rows.items)
    (flags_of c.self.inside.rows.items) c.args.hash c.first_live-at.result c.seek.result r
    (λ q l m live. c.first_live-at.ensures.none_above q (rw c.deref.ensures.value (omega (arith, l, n)))
    (rw (c.deref.ensures.value, c.deref_mut.ensures.value)
    (m ∙ ap (λ k. c.args.hash % k) (sym (c.len.ensures ∙ size)) ∙ sym c.slot_for-slot.ensures))
    (rw c.deref.ensures.value live))
    (rw c.deref_mut-2.ensures.value at c.seek.ensures.none_between)
    (ap (λ x. get_or x.rows r None) c.self.view_is ∙ e)
