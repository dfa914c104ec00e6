use Rattle.std.proofs.Common.{◌++◌, append-nil, append_assoc, sym, ap, subst, take, ◌∙◌}
use Rattle.chr_printing.specs.working.Printing.{all_atoms, flat_atoms, flats_atoms, IsWrittenOut}
use Rattle.chr_printing.proofs.Printed.{flat_more, live_flat}
use Rattle.chr_printing.proofs.turns.add_written.Goals as goal

pub loop-flat-init : goal.loop-flat-init
loop-flat-init c = (sym (append-nil (all_atoms c.args.turns.now.items)), λ ds all h. h)

pub loop-flat-preserved : goal.loop-flat-preserved
loop-flat-preserved c =
    let fs = c.args.flats.now in
    let i = c.loop-flat.flat-index in
    let f = c.flat-item.result in
    let within = c.loop-flat-test.true in
    let before = all_atoms c.args.turns.now.items in (
      c.in_ok-push_turn.ensures.atoms ∙ ap (λ xs. all_atoms c.loop-flat.turns.items ++ xs) (live_flat f)
          ∙ ap (λ xs. xs ++ flat_atoms f) c.loop-flat.invariant.0
          ∙ append_assoc before (flats_atoms (take i fs)) (flat_atoms f)
          ∙ ap (λ xs. before ++ xs) (sym (flat_more flat_atoms fs i f within c.flat-item.is)),
      λ ds all h. c.in_ok-push_turn.ensures.fit ds (subst (IsWrittenOut ds) (sym c.flat-item.is) (all i f within))
          (c.loop-flat.invariant.1 ds all h),
    )
