use Rattle.std.proofs.Common.{sym, ◌∙◌, arith, true, false}
use Rattle.chr_columns.proofs.Removals.{counted_more, counts_as, counted_dead}
use Rattle.chr_columns.proofs.removing.count_rows.Goals as goal
use Rattle.chr_columns.proofs.removing.count_rows.Goals.{in-Some+then-is_same, in-Some+else-is_same, in_default}

pub loop-row-preserved : goal.loop-row-preserved
loop-row-preserved c =
    let a = c.args.atom.now in
    let rows = c.args.table.now.rows in
    let i = c.loop-row.row in
    let before = c.loop-row.invariant in
    elim c.match-get.branch [
      | in-Some+then-is_same w ↦ (let more = counted_more a w.in-Some.other rows i (sym w.in-Some.ensures) in
          let test = counts_as a w.in-Some.other true (sym w.is_same.ensures ∙ w.if-is_same.true) in
          record { value = omega (arith, more, test, before, w.count-is); bound = omega (arith, before, w.count-is) })
      | in-Some+else-is_same w ↦ (let more = counted_more a w.in-Some.other rows i (sym w.in-Some.ensures) in
          let test = counts_as a w.in-Some.other false (sym w.is_same.ensures ∙ w.if-is_same.false) in
          record { value = omega (arith, more, test, before, w.count-is); bound = omega (arith, before, w.count-is) })
      | in_default w ↦ (let more = counted_dead a rows i (sym w.in_default.ensures) in
          record { value = omega (arith, more, before, w.count-is); bound = omega (arith, before, w.count-is) })
    ]
