use Rattle.std.proofs.Common.{◌++◌, ◌∙◌, sym}
use Rattle.chr_confluence.specs.Sorts.{sorted_terms}
use Rattle.chr_confluence.proofs.SortPlaces.{sorted-append}
use Rattle.chr_sorting.specs.working.Notes.{numbering}
use Rattle.chr_sorting.proofs.notes.placed_heads.Goals as goal

pub returns : goal.returns
returns c =
    let r = c.args.rule.now in
    c.in_ok-add_patterns-2.ensures ∙ (λ i. (c.in_ok-add_patterns.ensures
    ∙ (λ j. c.new-heads.ensures.items j ++ sorted_terms numbering (c.deref.ensures.0 j))) i
    ++ sorted_terms numbering (c.deref-2.ensures.0 i)) ∙ sym (sorted-append numbering r.kept.items r.removed.items)
