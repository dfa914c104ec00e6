use Rattle.std.proofs.Common.{sym, ap, take, ◌∙◌}
use Rattle.std.proofs.lemmas.Bool.{OnTrue_at}
use Rattle.chr_base.specs.FinBag.{◌⊕◌}
use Rattle.chr_base.specs.Stores.{store_of}
use Rattle.chr_plans.specs.Grids.{live_atoms}
use Rattle.chr_printing.specs.working.Portions.{atoms_at, portion}
use Rattle.chr_printing.specs.working.Printing.{flats_atoms}
use Rattle.chr_printing.proofs.Portioned.{portion_both}
use Rattle.chr_printing.proofs.Printed.{flat_more}
use Rattle.chr_printing.proofs.flats.flats_of.Goals as goal

pub loop-table-init : goal.loop-table-init
loop-table-init c = ap (λ xs. store_of (flats_atoms xs)) c.new-flats.ensures.items

pub loop-table-preserved : goal.loop-table-preserved
loop-table-preserved c =
    let tables = c.args.tables.now in
    let i = c.loop-table.table-index in
    let rows = live_atoms c.table-item.result.now.rows in
    let mine = portion c.args.cuts.now c.args.place in
    OnTrue_at c.if-not-branch.false c.in_ok-add_rows.ensures
    ∙ ap (λ s. s ⊕ store_of (mine rows)) c.loop-table.invariant
    ∙ sym (portion_both c.args.cuts.now c.args.place (atoms_at (take i tables)) rows)
    ∙ ap (λ xs. store_of (mine xs)) (sym (flat_more (λ t. live_atoms t.now.rows) tables i c.table-item.result
    c.loop-table-test.true c.table-item.is))
