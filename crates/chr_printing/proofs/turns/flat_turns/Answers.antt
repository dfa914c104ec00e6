use Rattle.std.proofs.Common.{◌++◌, sym, ap, subst, ◌∙◌}
use Rattle.std.proofs.lemmas.List.Elements.{All-nil}
use Rattle.chr_printing.specs.working.Printing.{all_atoms, flat_atoms, Fit, Fits}
use Rattle.chr_printing.proofs.Printed.{flat_more, live_flat}
use Rattle.chr_printing.proofs.turns.flat_turns.Goals as goal

pub loop-flat-init : goal.loop-flat-init
loop-flat-init c = (
  ap all_atoms c.new-turns.ensures.items,
  λ ds. subst (Fit ds) (sym c.new-turns.ensures.items) (All-nil (λ t. Fits ds t.source)),
)

pub loop-flat-preserved : goal.loop-flat-preserved
loop-flat-preserved c = (
  c.in_ok-push_turn.ensures.atoms
      ∙ ap (λ xs. all_atoms c.loop-flat.turns.items ++ xs) (live_flat c.flat-item.result)
      ∙ ap (λ xs. xs ++ flat_atoms c.flat-item.result) c.loop-flat.invariant.0
      ∙ sym (flat_more flat_atoms c.args.flats.now c.loop-flat.flat-index c.flat-item.result
      c.loop-flat-test.true c.flat-item.is),
  λ ds. c.in_ok-push_turn.ensures.fit ds tt (c.loop-flat.invariant.1 ds),
)
