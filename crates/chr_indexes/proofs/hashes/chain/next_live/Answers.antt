use Rattle.std.proofs.Common.{◌≡◌, ◌-◌, ◌<◌, get_or, length, arith, false, refl, sym, ◌∙◌}
use Rattle.std.proofs.lemmas.List.{get_or-map, get_or-set_same, length-set, length-map, map-set}
use Rattle.chr_indexes.specs.declared.hashes.row.Row.{Row}
use Rattle.chr_indexes.specs.working.HashEntries.{flags_of, links_of, hashes_of}
use Rattle.chr_indexes.proofs.HashFields.{length_hashes, chained_link, field_kept}
use Rattle.chr_indexes.proofs.HashLinks.{skip_link_to}
use Rattle.chr_indexes.proofs.HashRows.{slots_len}
use Rattle.chr_indexes.proofs.hashes.chain.next_live.Goals as goal

pub loop-at-preserved : goal.loop-at-preserved
loop-at-preserved c =
    let i = c.loop-at.invariant in
    let size = i.size in
    let some = c.loop-at-test.true in
    let r = c.requires.row in
    let is = i.at in
    let m = slots_len (length c.args.heads.now) (hashes_of c.loop-at.rows) in
    let n = length_hashes c.loop-at.rows in
    let k = length-map c.loop-at.rows (λ (r : Row). r.next) in
    let down = i.chained.next_in c.args.row (omega (arith, r, size, m, n)) in
    let low : c.loop-at.at - 1 < length c.loop-at.rows = omega (arith, some, is, down, r, size) in
    let dead : get_or (flags_of c.loop-at.rows) (c.loop-at.at - 1) false ≡ false =
    get_or-map (λ (r : Row). r.alive) c.loop-at.rows (c.loop-at.at - 1) _ false low ∙ c.if-met.false in
    record {
      chained = chained_link (length c.args.heads.now) c.loop-at.rows c.args.heads.now c.args.row _ _ refl refl
          (skip_link_to _ _ _ _ c.args.row c.loop-at.at _ i.chained (omega (arith, r, size, m, n)) is some dead
          (sym (get_or-map (λ (r : Row). r.next) c.loop-at.rows (c.loop-at.at - 1) _ 0 low)));
      size = length-set c.loop-at.rows c.args.row _ ∙ size;
      hashes = field_kept (λ (r : Row). r.hash) c.loop-at.rows c.args.row _ _ refl ∙ i.hashes;
      flags = field_kept (λ (r : Row). r.alive) c.loop-at.rows c.args.row _ _ refl ∙ i.flags;
      at = rw (map-set (λ (r : Row). r.next) c.loop-at.rows c.args.row _)
          (sym (get_or-set_same (links_of c.loop-at.rows) c.args.row _ 0 (omega (arith, k, r, size))));
    }
