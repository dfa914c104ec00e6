-- Overlaps whose numbers of cases are found one after another.
use Rattle.std.specs.Prelude.{◌≡◌, ℕ, ◌+◌, ◌<◌, List, [], ◌∷◌, ◌++◌, length, take, get_or, Option}
use Rattle.std.specs.List.{AllZip}
use Rattle.std.proofs.Common.{sym, ap, subst, ◌∙◌}
use Rattle.std.proofs.lemmas.List.{take_more}
use Rattle.rayon.proofs.ListFacts.{AllZip-append}
use Rattle.chr_base.specs.declared.rule.Rule.{Rule}
use Rattle.chr_overlaps.specs.declared.overlap.Overlap.{Overlap}
use Rattle.chr_join.specs.Numbers.{HasNumber}

-- one overlap more has its number
pub numbered_more : (rules : List Rule) (os : List Overlap) (i : ℕ) (o : Overlap) (ns new : List (Option ℕ))
    (n : Option ℕ) → i < length os → o ≡ get_or os i o → AllZip (HasNumber rules) (take i os) ns
    → HasNumber rules o n → new ≡ ns ++ n ∷ [] → AllZip (HasNumber rules) (take (i + 1) os) new
numbered_more rules os i o ns new n l e before number pushed =
    subst (AllZip (HasNumber rules) (take (i + 1) os)) (sym pushed)
    (subst (λ xs. AllZip (HasNumber rules) xs (ns ++ n ∷ []))
    (sym (take_more os i o l ∙ ap (λ x. take i os ++ x ∷ []) (sym e)))
    (AllZip-append (HasNumber rules) (take i os) (o ∷ []) ns (n ∷ []) before (number, tt)))
