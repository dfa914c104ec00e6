use Rattle.std.proofs.Common.{sym, ap, subst, ◌∙◌}
use Rattle.std.proofs.lemmas.List.Elements.{All-nil}
use Rattle.chr_base.specs.Atoms.{atom_cmp}
use Rattle.chr_base.specs.Stores.{store_of}
use Rattle.chr_base.proofs.FinBags.{of_list-none}
use Rattle.chr_printing.specs.working.Printing.{all_atoms, Fit, Fits}
use Rattle.chr_printing.proofs.Printed.{contents_more}
use Rattle.chr_printing.proofs.turns.turns_of.Goals as goal

pub loop-table-init : goal.loop-table-init
loop-table-init c = (
  ap (λ ts. store_of (all_atoms ts)) c.new-turns.ensures.items ∙ of_list-none atom_cmp,
  λ ds. subst (Fit ds) (sym c.new-turns.ensures.items) (All-nil (λ t. Fits ds t.source)),
)

pub loop-table-preserved : goal.loop-table-preserved
loop-table-preserved c = (
  contents_more c.args.tables.now c.loop-table.table-index c.table-item.result (all_atoms c.loop-table.turns.items) _
      c.loop-table-test.true c.table-item.is c.loop-table.invariant.0 c.in_ok-push_turn.ensures.atoms,
  λ ds. c.in_ok-push_turn.ensures.fit ds tt (c.loop-table.invariant.1 ds),
)
