use Rattle.std.proofs.Common.{ap, ◌∙◌, map, [], ◌∷◌}
use Rattle.std.proofs.lemmas.List.{map-append}
use Rattle.std.specs.Arc.{arc_value}
use Rattle.chr_report.proofs.blocks.push_last.Goals as goal

pub returns : goal.returns
returns c =
    ap (λ bs. map (λ b. arc_value b) bs) c.in_ok-push_back.ensures.items
    ∙ map-append (λ b. arc_value b) c.args.blocks.now.items (c.args.block ∷ [])
