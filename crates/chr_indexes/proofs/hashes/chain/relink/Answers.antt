use Rattle.std.proofs.Common.{◌≡◌, ℕ, ◌+◌, ◌%◌, false, get_or, length, take, arith, ap, ◌∙◌, refl}
use Rattle.std.proofs.lemmas.List.{length-set, length-take-le, take_more_set}
use Rattle.chr_indexes.specs.declared.hashes.row.Row.{Row}
use Rattle.chr_indexes.proofs.HashFields.{field_kept}
use Rattle.chr_indexes.proofs.HashRows.{chained_push}
use Rattle.chr_indexes.proofs.hashes.chain.relink.Goals as goal

pub loop-i-preserved : goal.loop-i-preserved
loop-i-preserved c =
    let i = c.loop-i.invariant in
    let size = i.size in
    let rows = i.rows in
    let some = c.requires.some in
    let few = c.requires.few in
    let low = c.loop-i-test.true in
    let slot = c.slot_for-slot.ensures in
    let front : length (take c.loop-i.i c.loop-i.rows) ≡ c.loop-i.i =
    length-take-le c.loop-i.i c.loop-i.rows (omega (arith, low, rows)) in
    let old : Row = get_or c.loop-i.rows c.loop-i.i (record { hash = 0; next = 0; alive = false }) in
    let new : Row =
    record { hash = old.hash; next = get_or c.loop-i.heads c.slot_for-slot.result 0; alive = old.alive } in
    record {
      chained = rw (take_more_set c.loop-i.rows c.loop-i.i new (omega (arith, low, rows)))
          (chained_push (length c.args.heads.now) (take c.loop-i.i c.loop-i.rows) c.loop-i.heads new
          c.slot_for-slot.result (c.loop-i.i + 1) i.chained (slot ∙ ap (λ (n : ℕ). old.hash % n) size)
          (omega (arith, slot, size, some)) refl (omega (arith, front)) (omega (arith, front, low, few)));
      size = length-set c.loop-i.heads _ _ ∙ size;
      rows = length-set c.loop-i.rows _ _ ∙ rows;
      hashes = field_kept (λ (r : Row). r.hash) c.loop-i.rows c.loop-i.i _ _ refl ∙ i.hashes;
      flags = field_kept (λ (r : Row). r.alive) c.loop-i.rows c.loop-i.i _ _ refl ∙ i.flags;
    }
