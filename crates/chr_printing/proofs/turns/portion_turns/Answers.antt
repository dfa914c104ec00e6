use Rattle.std.proofs.Common.{◌≡◌, ◌∙◌, None, Some, ap, arith, get_or, subst, sym}
use Rattle.std.proofs.lemmas.List.{get_or_default}
use Rattle.std.specs.List.{All}
use Rattle.std.proofs.lemmas.List.Elements.{All-nil}
use Rattle.chr_base.specs.Atoms.{atom_cmp}
use Rattle.chr_base.specs.FinBag.{◌⊕◌}
use Rattle.chr_base.specs.Stores.{store_of}
use Rattle.chr_base.proofs.FinBags.{of_list-none}
use Rattle.chr_base.proofs.Stores.{store_of-append}
use Rattle.chr_printing.specs.working.Printing.{all_atoms, flats_atoms, Fit, Fits, IsWrittenOut}
use Rattle.chr_printing.proofs.Portioned.{as_many_portions, first_all, first_more, first_none, first_portions}
use Rattle.chr_printing.proofs.Portioned.{portion_found}
use Rattle.chr_printing.proofs.turns.portion_turns.Goals as goal

pub loop-portion-init : goal.loop-portion-init
loop-portion-init c = λ ds cuts atoms are. (
  ap (λ ts. store_of (all_atoms ts)) c.new-turns.ensures.items ∙ of_list-none atom_cmp ∙ sym (first_none cuts atoms),
  subst (Fit ds) (sym c.new-turns.ensures.items) (All-nil (λ t. Fits ds t.source)),
)

pub loop-portion-preserved : goal.loop-portion-preserved
loop-portion-preserved c = λ ds cuts atoms are.
    let i = c.loop-portion.portion-index in
    let before = c.loop-portion.invariant ds cuts atoms are in
    let flats = c.in-Some.flats in
    let here : get_or c.args.portions.now i None ≡ Some flats =
    get_or_default c.args.portions.now i None _ c.loop-portion-test.true ∙ sym c.portion-item.is ∙ c.in-Some.is in
    let portion = portion_found ds cuts atoms c.args.portions.now i flats are c.loop-portion-test.true here in
    let same = c.deref.ensures.value in (
      ap store_of c.in_ok-add_written-in-Some.ensures.atoms
          ∙ store_of-append (all_atoms c.loop-portion.turns.items) (flats_atoms c.deref.result.now)
          ∙ ap (λ s. s ⊕ store_of (flats_atoms c.deref.result.now)) before.0
          ∙ ap (λ s. store_of (first_portions cuts i atoms) ⊕ s) (ap (λ fs. store_of (flats_atoms fs)) same
          ∙ portion.same)
          ∙ sym (first_more cuts i atoms),
      c.in_ok-add_written-in-Some.ensures.fit ds (subst (All (IsWrittenOut ds)) (sym same) portion.written) before.1,
    )

pub returns-clause-atoms : goal.returns-clause-atoms
returns-clause-atoms c = λ ds cuts atoms are.
    (c.loop-portion.invariant ds cuts atoms are).0
    ∙ ap store_of (first_all cuts atoms c.loop-portion.portion-index
    (omega (arith, c.loop-portion-test.false, as_many_portions ds cuts atoms c.args.portions.now are)))
