-- The first elements of a list.
use Rattle.std.specs.Prelude.{◌≡◌, ℕ, ◌+◌, ◌<◌, List, [], ◌∷◌, ◌++◌, length, take, get_or}
use Rattle.std.specs.List.{All}
use Rattle.std.proofs.Common.{sym, ap, subst, ◌∙◌}
use Rattle.std.proofs.lemmas.List.{take_more}
use Rattle.std.proofs.lemmas.List.Elements.{All-push}

-- it holds of one more of the first elements
pub one_further : {A : Type 0} (P : A → Type 0) (xs : List A) (k : ℕ) (x : A) → k < length xs → x ≡ get_or xs k x
    → All P (take k xs) → P x → All P (take (k + 1) xs)
one_further P xs k x l e all h =
    subst (All P) (sym (take_more xs k x l ∙ ap (λ y. take k xs ++ y ∷ []) (sym e))) (All-push P (take k xs) x all h)
