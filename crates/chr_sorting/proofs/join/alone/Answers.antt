use Rattle.std.proofs.Common.{◌++◌, ◌∷◌, [], ◌∙◌, ap, sym}
use Rattle.chr_sorting.proofs.Joining.{range_more}
use Rattle.chr_sorting.proofs.join.alone.Goals as goal

pub loop-position-preserved : goal.loop-position-preserved
loop-position-preserved c = c.in_ok-push.ensures.items
    ∙ ap (λ xs. xs ++ c.loop-position.position ∷ []) c.loop-position.invariant
    ∙ sym (range_more c.loop-position.position)
