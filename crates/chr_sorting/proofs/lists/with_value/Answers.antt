use Rattle.std.proofs.Common.{ℤ, subst, ◌∷◌, [], List}
use mir.Val.{SFits}
use mir.Syntax.{w64}
use Rattle.std.proofs.lemmas.Int.{to_z-of_z}
use Rattle.chr_base.specs.declared.term.Term.TheVariants.{Constant}
use Rattle.chr_overlaps.specs.working.Gathering.{Gathers}
use Rattle.chr_sorting.proofs.Choices.{value_inserted}
use Rattle.chr_sorting.proofs.lists.with_value.Goals as goal

pub returns : goal.returns
returns c =
    let ks = c.args.values.now in
    let v = c.args.value in
    let fv : SFits w64 v = c.ranges.value in
    let given : Gathers (Constant v ∷ []) c.in_ok-more.more.items c.add_constant.new.found.items =
    simp to_z-of_z at c.in_ok-add_constant.ensures in
    value_inserted v ks c.add_constant.new.found.items c.requires c.are_values.ensures
    (subst (λ (xs : List ℤ). Gathers (Constant v ∷ []) xs c.add_constant.new.found.items) c.in_ok-more.ensures.items
    given)
