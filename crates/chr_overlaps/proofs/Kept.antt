-- The cases that are kept, representative by representative.
use Rattle.std.specs.Prelude.{◌≡◌, ℕ, ◌+◌, ◌<◌, Bool, true, false, cond, List, [], ◌∷◌, ◌++◌, length, get_or, take, map}
use Rattle.std.specs.Prelude.{Some, None}
use Rattle.std.specs.List.{filter}
use Rattle.std.proofs.Common.{refl, sym, ap, ◌∙◌}
use Rattle.std.proofs.lemmas.List.{take_more, append-nil}

kept_last : {A B : Type 0} (f : A → B) (g : A → Bool) (xs : List A) (x : A) → map f (filter g (xs ++ x ∷ []))
    ≡ map f (filter g xs) ++ cond (g x) (f x ∷ []) []
kept_last f g [] x = elim (g x) as (λ b. map f (cond b (x ∷ []) []) ≡ cond b (f x ∷ []) [])
    [ true ↦ refl | false ↦ refl ]
kept_last f g (y ∷ xs) x = by (g y) (kept_last f g xs x)
  where
    by : (b : Bool) → map f (filter g (xs ++ x ∷ [])) ≡ map f (filter g xs) ++ cond (g x) (f x ∷ []) []
        → map f (cond b (y ∷ filter g (xs ++ x ∷ [])) (filter g (xs ++ x ∷ [])))
        ≡ map f (cond b (y ∷ filter g xs) (filter g xs)) ++ cond (g x) (f x ∷ []) []
    by true e = ap (λ zs. f y ∷ zs) e
    by false e = e

kept_more : {A B : Type 0} (f : A → B) (g : A → Bool) (xs : List A) (i : ℕ) (d : A) → i < length xs
    → map f (filter g (take (i + 1) xs)) ≡ map f (filter g (take i xs)) ++ cond (g (get_or xs i d))
    (f (get_or xs i d) ∷ []) []
kept_more f g xs i d l = ap (λ ys. map f (filter g ys)) (take_more xs i d l) ∙ kept_last f g (take i xs) (get_or xs i d)

pub kept : {A B : Type 0} (f : A → B) (g : A → Bool) (xs : List A) (i : ℕ) (d : A) (y : B) (ys zs : List B)
    → i < length xs
    → Some y ≡ cond (g (get_or xs i d)) (Some (f (get_or xs i d))) None → ys ≡ map f (filter g (take i xs)) → zs ≡ ys
    ++ y ∷ [] → zs ≡ map f (filter g (take (i + 1) xs))
kept f g xs i d y ys zs l e same more = more ∙ (λ j. same j ++ y ∷ []) ∙ ap (λ us. map f (filter g (take i xs)) ++ us)
    (by (g (get_or xs i d)) e) ∙ sym (kept_more f g xs i d l)
  where
    by : (b : Bool) → Some y ≡ cond b (Some (f (get_or xs i d))) None → y ∷ [] ≡ cond b (f (get_or xs i d) ∷ []) []
    by true h = ap (λ z. z ∷ []) cc
    by false h = absurd cc

pub passed : {A B : Type 0} (f : A → B) (g : A → Bool) (xs : List A) (i : ℕ) (d : A) (ys : List B) → i < length xs
    → None ≡ cond (g (get_or xs i d)) (Some (f (get_or xs i d))) None → ys ≡ map f (filter g (take i xs))
    → ys ≡ map f (filter g (take (i + 1) xs))
passed f g xs i d ys l e same = same ∙ sym (append-nil _) ∙ ap (λ us. map f (filter g (take i xs)) ++ us)
    (by (g (get_or xs i d)) e) ∙ sym (kept_more f g xs i d l)
  where
    by : (b : Bool) → None ≡ cond b (Some (f (get_or xs i d))) None → [] ≡ cond b (f (get_or xs i d) ∷ []) []
    by true h = absurd cc
    by false h = refl
