use Rattle.std.proofs.Common.{◌++◌, ap, ◌∙◌}
use Rattle.std.specs.Prelude.{string_bytes}
use Rattle.chr_base.specs.Programs.{declarations}
use Rattle.chr_base.specs.Texts.{atoms_text}
use Rattle.chr_base.proofs.Printed.{flat_same, in_print}
use Rattle.chr_printing.specs.working.Printing.{all_atoms, turn_atoms}
use Rattle.chr_printing.proofs.Printed.{fit_shuffled}
use Rattle.chr_printing.proofs.turns.push_sorted.Goals as goal

pub are_in_order-requires : goal.are_in_order-requires
are_in_order-requires c =
    fit_shuffled (declarations c.args.program.now) c.args.turns.now.items _ _ c.sort_turns.ensures
    c.deref.ensures.value c.requires

pub push_turns-requires : goal.push_turns-requires
push_turns-requires c =
    fit_shuffled (declarations c.args.program.now) c.args.turns.now.items _ _ c.sort_turns.ensures
    c.deref-2.ensures.value c.requires

pub returns-clause-text : goal.returns-clause-text
returns-clause-text c =
    let ds = declarations c.args.program.now in
    let turns = c.sort_turns.new.turns.items in
    let old = string_bytes c.args.out.now in
    c.in_ok-push_turns.ensures ∙ ap (λ xs. old ++ atoms_text ds (all_atoms xs)) c.deref-2.ensures.value
    ∙ ap (λ xs. old ++ atoms_text ds xs) (in_print ds (all_atoms turns) _
    (rw c.deref.ensures.value at (c.if-not-are_in_order.ensures))
    (flat_same turn_atoms c.args.turns.now.items turns c.sort_turns.ensures))
