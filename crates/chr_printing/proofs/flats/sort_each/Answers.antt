use Rattle.std.proofs.Common.{rules, ◌≡◌, ◌<◌, length, get_or, ◌∙◌}
use Rattle.chr_base.proofs.Sorting.{same_multiset}
use Rattle.chr_printing.specs.working.Printing.{flat_atoms}
use Rattle.chr_printing.proofs.Printed.{one_sorted}
use Rattle.chr_printing.proofs.flats.sort_each.Goals as goal

pub loop-place-preserved : goal.loop-place-preserved
loop-place-preserved c =
    let fs = c.loop-place.flats.items in
    let i = c.loop-place.place in
    let f = c.index_mut.result.now in
    let within : i < length fs = search rules in
    let here : f ≡ get_or fs i f = search rules in
    one_sorted fs i f c.sort.new.self within here (same_multiset (flat_atoms f) (flat_atoms c.sort.new.self)
    c.sort.ensures)
    ∙ c.loop-place.invariant
