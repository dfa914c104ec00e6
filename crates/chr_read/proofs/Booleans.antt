-- Tests of lists.
use Rattle.std.proofs.Common.{◌≡◌, List, [], ◌∷◌, Bool, true, false, map, refl}
use Rattle.std.proofs.lemmas.Bool.{and_from, or_parts}
use Rattle.std.specs.List.{list_any, list_all}

-- where none passes the one test, all pass the other
pub all_pass : {A B : Type 0} (p : A → Bool) (f : A → B) (q : B → Bool) → ((x : A) → p x ≡ false → q (f x) ≡ true)
    → (xs : List A) → list_any p xs ≡ false → list_all q (map f xs) ≡ true
all_pass p f q good [] h = refl
all_pass p f q good (x ∷ xs) h =
    let n = or_parts _ _ h in and_from _ _ (good x n.0) (all_pass p f q good xs n.1)
