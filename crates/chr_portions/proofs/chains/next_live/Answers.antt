use Rattle.std.proofs.Common.{◌-◌, ◌<◌, length, arith, refl, sym, ap, ◌∙◌}
use Rattle.std.proofs.lemmas.List.{length-set, get_or-set_same}
use Rattle.chr_portions.specs.declared.record.Record.{Record}
use Rattle.chr_portions.specs.working.Skips.{no_record, record_at}
use Rattle.chr_portions.specs.working.Chains.{slot_of, IsNewest}
use Rattle.chr_portions.proofs.Kept.{alike_trans, alike_set, next_set, past_dead}
use Rattle.chr_portions.proofs.chains.next_live.Goals as goal

pub loop-at-preserved : goal.loop-at-preserved
loop-at-preserved c =
    let i = c.loop-at.invariant in
    let size = i.size in
    let some = c.loop-at-test.true in
    let place = c.requires.place in
    let n = c.args.slots in
    let records = c.loop-at.records in
    let here : c.args.place < length records = omega (arith, place, size) in
    let newest : IsNewest n records c.args.place (slot_of n records c.args.place) c.loop-at.at =
    rw i.at (i.next c.args.place place) in
    let w = newest.within in
    let low : c.loop-at.at - 1 < length c.args.records.now = omega (arith, some, w, place) in
    let next = past_dead n records c.args.place (slot_of n records c.args.place) c.loop-at.at
    (record_at records (c.loop-at.at - 1)).next newest some c.if-met.false (i.next (c.loop-at.at - 1) low) in
    let met = record_at records c.args.place in
    let x : Record = record {
      first = met.first;
      second = met.second;
      hash = met.hash;
      next = (record_at records (c.loop-at.at - 1)).next;
      row = met.row;
      alive = met.alive;
    } in
    let alike = alike_set records c.args.place x here refl refl refl refl refl in record {
      size = length-set records c.args.place x ∙ size;
      alike = alike_trans _ _ _ i.alike alike;
      next = next_set n records (length c.args.records.now) c.args.place x here alike i.next next;
      at = sym (ap (λ (r : Record). r.next) (get_or-set_same records c.args.place x no_record here));
    }
