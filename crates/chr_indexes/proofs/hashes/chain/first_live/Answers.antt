use Rattle.std.proofs.Common.{◌≡◌, ◌-◌, ◌<◌, get_or, length, arith, false, ◌∙◌}
use Rattle.std.proofs.lemmas.List.{get_or-map, length-set}
use Rattle.std.proofs.lemmas.Grind.{common_steps}
use Rattle.chr_indexes.specs.declared.hashes.row.Row.{Row}
use Rattle.chr_indexes.specs.working.HashEntries.{flags_of, hashes_of}
use Rattle.chr_indexes.proofs.HashFields.{length_hashes}
use Rattle.chr_indexes.proofs.HashLinks.{skip_head_to}
use Rattle.chr_indexes.proofs.HashRows.{slots_len}
use Rattle.chr_indexes.proofs.hashes.chain.first_live.Goals as goal

pub loop-at-preserved : goal.loop-at-preserved
loop-at-preserved c =
    let i = c.loop-at.invariant in
    let size = i.size in
    let some = c.loop-at-test.true in
    let s = c.requires.slot in
    let is = i.at in
    let top = i.chained.first_in c.args.slot (omega (arith, s, size)) in
    let m = slots_len (length c.args.heads.now) (hashes_of c.args.rows.now) in
    let n = length_hashes c.args.rows.now in
    let low : c.loop-at.at - 1 < length c.args.rows.now = omega (arith, some, is, top, m, n) in
    let dead : get_or (flags_of c.args.rows.now) (c.loop-at.at - 1) false ≡ false =
    get_or-map (λ (r : Row). r.alive) c.args.rows.now (c.loop-at.at - 1) _ false low ∙ c.if-met.false in
    let next = get_or-map (λ (r : Row). r.next) c.args.rows.now (c.loop-at.at - 1)
    (record { hash = 0; next = 0; alive = false }) 0 low in
    let here : c.args.slot < length c.loop-at.heads = omega (arith, s, size) in
    record {
      chained = skip_head_to _ _ _ _ c.args.slot c.loop-at.at _ i.chained here is some dead
          (grind (arith, common_steps));
      size = length-set c.loop-at.heads c.args.slot _ ∙ size;
      at = grind (arith, common_steps);
    }
