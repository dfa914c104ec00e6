use Rattle.std.proofs.Common.{map, sym, ap, ◌∙◌}
use Rattle.chr_base.proofs.Stores.{plus_empty}
use Rattle.chr_plans.specs.Grids.{contents}
use Rattle.chr_printing.specs.working.Printing.{rows_at}
use Rattle.chr_printing.proofs.Printed.{tables_more, tables_same}
use Rattle.chr_printing.proofs.turns.add_all.Goals as goal
use Rattle.chr_printing.proofs.turns.add_all.Goals.{then-has_atoms+in_ok-push, else-has_atoms}

pub loop-table-init : goal.loop-table-init
loop-table-init c = sym (plus_empty (contents (map rows_at c.args.list.now.items)))

pub loop-table-preserved : goal.loop-table-preserved
loop-table-preserved c =
    let s = contents (map rows_at c.args.list.now.items) in
    elim c.if-has_atoms.branch [
      | then-has_atoms+in_ok-push w ↦ (
          ap (λ v. contents (map rows_at v.items)) w.list-is
          ∙ ap (λ xs. contents (map rows_at xs)) w.in_ok-push.ensures.items
          ∙ tables_more s c.loop-table.list.items c.args.tables.now c.loop-table.table-index _ c.loop-table-test.true
          c.table-item.is c.loop-table.invariant)
      | else-has_atoms w ↦ (
          ap (λ v. contents (map rows_at v.items)) w.list-is
          ∙ tables_same s c.loop-table.list.items c.args.tables.now c.loop-table.table-index c.table-item.result
          c.loop-table-test.true c.table-item.is
          (λ l. absurd (let e = c.has_atoms.ensures.1 l in let f = w.if-has_atoms.false in cc))
          c.loop-table.invariant)
    ]
