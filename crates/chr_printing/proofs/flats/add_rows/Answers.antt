use Rattle.std.proofs.Common.{take, sym, ap, ◌∙◌}
use Rattle.std.proofs.lemmas.Bool.{OnTrue_at, OnFalse_at}
use Rattle.chr_base.specs.Atoms.{atom_cmp}
use Rattle.chr_base.specs.FinBag.{◌⊕◌}
use Rattle.chr_base.specs.Stores.{store_of}
use Rattle.chr_base.proofs.FinBags.{of_list-none}
use Rattle.chr_base.proofs.Stores.{plus_empty}
use Rattle.chr_plans.specs.Grids.{live_atoms}
use Rattle.chr_printing.specs.working.Portions.{portion}
use Rattle.chr_printing.specs.working.Printing.{flats_atoms}
use Rattle.chr_columns.proofs.Listed.{live_more, dead_more}
use Rattle.chr_printing.proofs.Portioned.{portion_more}
use Rattle.chr_printing.proofs.flats.add_rows.Goals as goal
use Rattle.chr_printing.proofs.flats.add_rows.Goals.{then-read_live+in_ok-add_of+else-not-branch, else-read_live}

pub loop-row-init : goal.loop-row-init
loop-row-init c =
    let s = store_of (flats_atoms c.args.flats.now.items) in
    sym (ap (λ t. s ⊕ t) (of_list-none atom_cmp) ∙ plus_empty s)

pub loop-row-preserved : goal.loop-row-preserved
loop-row-preserved c =
    let s = store_of (flats_atoms c.args.flats.now.items) in
    let rows = c.args.table.now.rows in
    let i = c.loop-row.row in
    let mine = portion c.args.cuts.now c.args.place in
    elim c.if-read_live.branch [
      | then-read_live+in_ok-add_of+else-not-branch w ↦ (
          let atom = c.read_live.new.atom in
          let next = live_more rows i atom (OnTrue_at w.if-read_live.true c.read_live.ensures.there) in
          ap (λ v. store_of (flats_atoms v.items)) w.flats-is ∙ OnTrue_at w.if-not-branch.false w.in_ok-add_of.ensures
          ∙ portion_more c.args.cuts.now c.args.place s _ (live_atoms (take i rows)) _ c.loop-row.invariant
          ∙ ap (λ xs. s ⊕ store_of (mine xs)) (sym next))
      | else-read_live w ↦ (
          let none = dead_more rows i (OnFalse_at w.if-read_live.false c.read_live.ensures.none) in
          ap (λ v. store_of (flats_atoms v.items)) w.flats-is ∙ c.loop-row.invariant
          ∙ ap (λ xs. s ⊕ store_of (mine xs)) (sym none))
    ]
