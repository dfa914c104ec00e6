use Rattle.std.proofs.Common.{◌≡◌, ◌≤◌, ◌+◌, ◌<◌, length, get_or, sym, ◌∙◌, arith}
use Rattle.std.proofs.lemmas.List.{length-set, get_or_default}
use Rattle.chr_base.specs.Atoms.{no_atom}
use Rattle.chr_tables.specs.working.Indexes.{chosen}
use Rattle.chr_tables.proofs.Compacting.{AreKept, kept_more, kept_same}
use Rattle.chr_tables.proofs.table.keep_live.Goals as goal
use Rattle.chr_tables.proofs.table.keep_live.Goals.{then-alive-row, else-alive-row}

pub loop-row-preserved : goal.loop-row-preserved
loop-row-preserved c =
    let g = c.loop-row-test.true in
    let few = c.loop-row.invariant.few in
    let len = c.loop-row.invariant.len in
    let e = c.requires in
    let x = get_or c.loop-row.atoms c.loop-row.row no_atom in
    let m : c.loop-row.row < length c.args.alive.now = omega (arith, g) in
    let l : c.loop-row.row < length c.loop-row.atoms = omega (arith, m, len, e) in
    let is = sym (get_or_default c.loop-row.atoms c.loop-row.row x no_atom l) in
    elim c.if-alive-row.branch as (λ _. record {
      few : c.if-alive-row.count ≤ c.loop-row.row + 1;
      len : length c.if-alive-row.atoms ≡ length c.args.atoms.now;
      kept : AreKept c.if-alive-row.atoms c.args.alive.now c.if-alive-row.count (c.loop-row.row + 1)
          (chosen c.args.atoms.now c.args.alive.now);
    }) [
      | then-alive-row w ↦ rw (w.count-is, w.atoms-is, w.move_down.ensures no_atom) (record {
        few = omega (arith, few);
        len = length-set c.loop-row.atoms c.loop-row.count x ∙ len;
        kept = kept_more c.loop-row.atoms c.args.alive.now c.loop-row.count c.loop-row.row _ x few l m is
            w.if-alive-row.true c.loop-row.invariant.kept;
      })
      | else-alive-row w ↦ rw (w.count-is, w.atoms-is) (record {
        few = omega (arith, few);
        len = len;
        kept = kept_same c.loop-row.atoms c.args.alive.now c.loop-row.count c.loop-row.row _ x l m is
            w.if-alive-row.false c.loop-row.invariant.kept;
      })
    ]
