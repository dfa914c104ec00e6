-- Lists, cut at their first element, and what holds of each element.
use Rattle.std.proofs.Common.{◌≡◌, ℕ, ◌-◌, ◌<◌, List, [], ◌∷◌, ◌++◌, take, drop, get_or, length, sym, ap, ◌∙◌, arith}
use Rattle.std.specs.List.{AllByRecursion}
use Rattle.std.proofs.Math.Seq.{take-length}

all_after_first : (n : ℕ) (x : ℕ) (xs : List ℕ) → n ≡ length xs → take n (drop 1 (x ∷ xs)) ≡ xs
all_after_first n x xs e = ap (λ k. take k xs) e ∙ take-length xs

-- a list that begins with x is x and the rest
pub first_and_rest : (xs : List ℕ) (x : ℕ) → 0 < length xs → get_or xs 0 0 ≡ x → xs ≡ x
    ∷ take (length xs - 1) (drop 1 xs)
first_and_rest [] x some first = absurd (omega arith)
first_and_rest (y ∷ ys) x some first = λ i. first i ∷ sym (all_after_first (length (y ∷ ys) - 1) y ys (omega arith)) i

pub all_push : {A : Type 0} (P : A → Type 0) (xs : List A) (x : A) → AllByRecursion P xs → P x
    → AllByRecursion P (xs ++ x ∷ [])
all_push P [] x h here = (here, tt)
all_push P (y ∷ ys) x h here = (h.0, all_push P ys x h.1 here)
