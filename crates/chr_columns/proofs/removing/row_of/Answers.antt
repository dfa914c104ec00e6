use Rattle.std.specs.Prelude.{Some}
use Rattle.std.proofs.Common.{sym, ap, ◌∙◌, arith, false}
use Rattle.chr_base.proofs.Atoms.{same_is}
use Rattle.chr_columns.proofs.Removals.{counted_more, counts_as, counted_dead}
use Rattle.chr_columns.proofs.removing.row_of.Goals as goal
use Rattle.chr_columns.proofs.removing.row_of.Goals.{in-Some+else-is_same, in_default}

pub returns-then-is_same-clause-found : goal.returns-then-is_same-clause-found
returns-then-is_same-clause-found c =
    sym c.in-Some.ensures ∙ ap Some (sym (same_is c.args.atom.now c.in-Some.other
    (sym c.is_same.ensures ∙ c.if-is_same.true)))

pub loop-row-preserved : goal.loop-row-preserved
loop-row-preserved c =
    let a = c.args.atom.now in
    let rows = c.args.table.now.rows in
    let i = c.loop-row.row in
    elim c.match-get.branch [
      | in-Some+else-is_same w ↦ (let more = counted_more a w.in-Some.other rows i (sym w.in-Some.ensures) in
          let test = counts_as a w.in-Some.other false (sym w.is_same.ensures ∙ w.if-is_same.false) in
          omega (arith, more, test, c.loop-row.invariant))
      | in_default w ↦ counted_dead a rows i (sym w.in_default.ensures) ∙ c.loop-row.invariant
    ]
