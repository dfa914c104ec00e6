use Rattle.std.proofs.Common.{◌∙◌, ap, subst, sym, Some}
use Rattle.std.specs.Prelude.{◌≡◌, List, slice_get}
use Rattle.std.proofs.lemmas.List.{take_rest}
use Rattle.std.proofs.lemmas.Bool.{OnTrue_at, OnTrue_from}
use Rattle.chr_base.specs.declared.term.Pattern.{Pattern}
use Rattle.chr_base.specs.Rules.{atoms_at}
use Rattle.chr_base.specs.Stores.{store_of}
use Rattle.chr_overlaps.proofs.EqualSides.{same_behind}
use Rattle.chr_overlaps.proofs.equal_sides.+are_same.Goals as goal

pub returns-in-Some : goal.returns-in-Some
returns-in-Some t c =
    let left = c.args.left.now in
    let right = c.args.right.now.items in
    let p = c.pattern-item.result in
    let found = subst (λ (qs : List Pattern). slice_get qs c.in-Some.place ≡ Some p) c.deref.ensures.0
    c.in-Some.ensures in
    OnTrue_from c.are_same.result _ (λ e v.
    same_behind v p left right c.in-Some.place c.in-len1-up.len_at_least c.pattern-item.is found
    (ap (λ (qs : List Pattern). store_of (atoms_at v qs)) (sym (take_rest left 1)) ∙ OnTrue_at e c.are_same.ensures v
    ∙ ap (λ (qs : List Pattern). store_of (atoms_at v qs)) c.remove.ensures.items))
