use Rattle.std.proofs.Common.{◌≡◌, ◌++◌, ap, ◌∙◌, sym, map, append_assoc}
use Rattle.chr_confluence.specs.Sorts.{sorted_terms}
use Rattle.chr_sorting.specs.working.Notes.{numbering, placed_heads, term_note, guard_notes}
use Rattle.chr_sorting.proofs.notes.add_rule.Goals as goal

pub returns : goal.returns
returns c =
    let r = c.args.rule.now in
    let heads = c.in_ok-heads.ensures in
    let body : c.add_patterns.new.placed.items ≡ sorted_terms numbering r.body.items =
    c.in_ok-add_patterns.ensures ∙ (λ j. c.new-body.ensures.items j ++ sorted_terms numbering (c.deref.ensures.0 j)) in
    let old = c.args.notes.now.items in
    let one = map (term_note (placed_heads r)) (placed_heads r) in
    let two = map (term_note (placed_heads r)) (sorted_terms numbering r.body.items) in
    let three = guard_notes (placed_heads r) r.guard.items in
    let first : c.add_term_notes.new.notes.items ≡ old ++ one =
    c.in_ok-add_term_notes.ensures ∙ (λ i. old ++ map (term_note ((c.deref-2.ensures.value ∙ heads) i))
    ((c.deref-3.ensures.value ∙ heads) i)) in
    let second : c.add_term_notes-2.new.notes.items ≡ (old ++ one) ++ two =
    c.in_ok-add_term_notes-2.ensures ∙ (λ i. first i ++ map (term_note ((c.deref-4.ensures.value ∙ heads) i))
    ((c.deref-5.ensures.value ∙ body) i)) in
    c.in_ok-add_guard.ensures ∙ (λ i. second i ++ guard_notes ((c.deref-6.ensures.value ∙ heads) i)
    (c.deref-7.ensures.0 i))
    ∙ append_assoc (old ++ one) two three ∙ append_assoc old one (two ++ three)
    ∙ ap (λ ns. old ++ ns) (sym (append_assoc one two three))
