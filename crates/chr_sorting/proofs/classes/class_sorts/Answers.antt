use Rattle.std.proofs.Common.{◌≡◌, ◌∙◌, ◌∷◌, [], ◌++◌, ◌-◌, if◌then◌else◌, nat_le, ap, get_or, ℕ}
use Rattle.chr_confluence.specs.Overlaps.{variables_of}
use Rattle.chr_confluence.specs.Sorts.{first_sort}
use Rattle.chr_overlaps.specs.working.Unifiers.{classes_of}
use Rattle.chr_sorting.specs.working.Notes.{placed_heads}
use Rattle.chr_sorting.proofs.ClassSorts.{next_sort}
use Rattle.chr_sorting.proofs.classes.class_sorts.Goals as goal

pub loop-class-preserved : goal.loop-class-preserved
loop-class-preserved c =
    let r1 = c.args.first.now in
    let r2 = c.args.second.now in
    let xs = c.free-class-items.result.now in
    let x : ℕ = get_or xs c.loop-class.class-index 0 in
    let left = c.deref.ensures.value ∙ c.in_ok-left.ensures in
    let right = c.deref-in-loop-class.ensures.value ∙ c.in_ok-right.ensures in
    let position : c.class_position-position.result ≡ (if nat_le x (variables_of r1) then first_sort
    (placed_heads r1) x else first_sort (placed_heads r2) (x - variables_of r1)) =
    c.class_position-position.ensures ∙ (λ i. if nat_le x (c.variables-shift.ensures.number i) then first_sort
    (left i) x else first_sort (right i) (x - c.variables-shift.ensures.number i)) in
    next_sort c.args.sorting.now r1 r2 c.requires.first c.requires.second (classes_of c.args.unified.now) xs
    c.loop-class.class-index c.class_position-position.result c.loop-class.sorts.items c.push.new.self.items
    (c.free-class-items.ensures ∙ c.requires.unified.free) c.loop-class-test.true position c.loop-class.invariant
    (c.in_ok-push.ensures.items ∙ ap (λ z. c.loop-class.sorts.items ++ z ∷ []) c.sort_at.ensures)
