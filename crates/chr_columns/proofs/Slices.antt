-- Reading an element of a list that has grown, or of which one was replaced.
use Rattle.std.proofs.Common.{◌≡◌, ℕ, zero, suc, ◌<◌, List, [], ◌∷◌, ◌++◌, length, set, get_or, map, refl, sym, ap, ◌∙◌}
use Rattle.std.proofs.Common.{arith, inl, inr, ◌⊎◌}
use Rattle.std.specs.Prelude.{Option, Some, slice_get, option_map}
use Rattle.std.proofs.lemmas.Option.{slice_get-map, slice_get_read}

pub slice_left : {X : Type 0} (xs ys : List X) (i : ℕ) (x : X) → slice_get xs i ≡ Some x → slice_get (xs ++ ys) i
    ≡ Some x
slice_left [] ys i x e = cc
slice_left (z ∷ xs) ys zero x e = e
slice_left (z ∷ xs) ys (suc i) x e = slice_left xs ys i x e

pub slice_last : {X : Type 0} (xs : List X) (y : X) → slice_get (xs ++ y ∷ []) (length xs) ≡ Some y
slice_last [] y = refl
slice_last (x ∷ xs) y = slice_last xs y

pub slice_more : {X : Type 0} (xs : List X) (y x : X) (i : ℕ) → slice_get (xs ++ y ∷ []) i ≡ Some x
    → (slice_get xs i ≡ Some x) ⊎ (y ≡ x)
slice_more {X} [] y x zero e = inr (let f : ◌≡◌ {A = Option X} (Some y) (Some x) = e in cc)
slice_more [] y x (suc i) e = cc
slice_more (z ∷ xs) y x zero e = inl e
slice_more (z ∷ xs) y x (suc i) e = slice_more xs y x i e

pub slice_set_same : {X : Type 0} (xs : List X) (i : ℕ) (y : X) → i < length xs → slice_get (set xs i y) i ≡ Some y
slice_set_same [] i y l = absurd (omega (arith, l))
slice_set_same (x ∷ xs) zero y l = refl
slice_set_same (x ∷ xs) (suc i) y l = slice_set_same xs i y (omega (arith, l))

pub slice_set_other : {X : Type 0} (xs : List X) (i k : ℕ) (y : X) → (k ≡ i → ⊥) → slice_get (set xs i y) k
    ≡ slice_get xs k
slice_set_other [] i k y n = refl
slice_set_other (x ∷ xs) zero zero y n = absurd (n refl)
slice_set_other (x ∷ xs) zero (suc k) y n = refl
slice_set_other (x ∷ xs) (suc i) zero y n = refl
slice_set_other (x ∷ xs) (suc i) (suc k) y n = slice_set_other xs i k y (λ e. n (omega (arith, e)))

-- what is read of an element
pub slice_read : {X Y : Type 0} (f : X → Y) (xs ys : List X) (i : ℕ) (x : X) (y : Y) → ys ≡ xs → i < length ys
    → x ≡ get_or ys i x → y ≡ f x → slice_get (map f xs) i ≡ Some y
slice_read f xs ys i x y e l h g =
    slice_get-map f xs i ∙ ap (option_map f) (ap (λ zs. slice_get zs i) (sym e)
    ∙ slice_get_read ys (length ys) i x refl l h) ∙ ap Some (sym g)
