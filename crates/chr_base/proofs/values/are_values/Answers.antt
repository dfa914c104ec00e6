use Rattle.std.proofs.Common.{get_or, pos, rules, ◌≡◌, ◌∙◌, true, ◌&&◌}
use mir.Val.{SFits}
use mir.Syntax.{w64}
use Rattle.std.proofs.lemmas.Int.{to_z-of_z}
use Rattle.std.proofs.lemmas.List.Folds.{list_all_more}
use Rattle.chr_base.specs.Values.{is_value}
use Rattle.chr_base.proofs.values.are_values.Goals as goal

pub loop-x-preserved : goal.loop-x-preserved
loop-x-preserved c =
    let fits : SFits w64 (get_or c.args.xs.now c.loop-x.x-index (pos 0)) = search rules in
    let test : is_value (get_or c.args.xs.now c.loop-x.x-index (pos 0)) ≡ true =
    (simp to_z-of_z at c.is_value_of.ensures.test) in
    list_all_more is_value c.args.xs.now c.loop-x.x-index (pos 0) c.loop-x-test.true
    ∙ (λ j. c.loop-x.invariant j && test j)
