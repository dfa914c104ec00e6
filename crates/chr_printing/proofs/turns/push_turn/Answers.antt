use Rattle.std.proofs.Common.{[], sym, subst, ap, ◌∙◌}
use Rattle.std.proofs.lemmas.List.{flat_map_more}
use Rattle.chr_printing.specs.working.Printing.{all_atoms, turn_atoms, Fit}
use Rattle.chr_printing.proofs.Printed.{fit_more}
use Rattle.chr_printing.proofs.turns.push_turn.Goals as goal

pub returns-clause-atoms : goal.returns-clause-atoms
returns-clause-atoms c =
    ap all_atoms c.in_ok-push.ensures.items ∙ sym (flat_map_more turn_atoms [] c.args.turns.now.items _)

pub returns-clause-fit : goal.returns-clause-fit
returns-clause-fit c = λ ds one all.
    subst (Fit ds) (sym c.in_ok-push.ensures.items) (fit_more ds c.args.turns.now.items _ one all)
