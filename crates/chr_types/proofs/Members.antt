-- Members of lists, by their places and of joined lists.
use Rattle.std.specs.Prelude.{◌≡◌, ℕ, zero, suc, ◌<◌, List, [], ◌∷◌, ◌++◌, ◌⊎◌, length, get_or, map}
use Rattle.std.proofs.Common.{refl, ap, subst, arith, inl, inr}
use Rattle.std.specs.List.{flat_map, zip}
use Rattle.chr_types.specs.OrderTypes.{In}

pub in_at : {A : Type 0} (xs : List A) (i : ℕ) (d : A) → i < length xs → In (get_or xs i d) xs
in_at [] i d l = absurd (omega (arith, l))
in_at (x ∷ xs) zero d l = inl refl
in_at (x ∷ xs) (suc i) d l = inr (in_at xs i d (omega (arith, l)))

pub in_first : {A : Type 0} (u : A) (xs ys : List A) → In u xs → In u (xs ++ ys)
in_first u [] ys i = elim i [ ]
in_first u (x ∷ xs) ys (inl e) = inl e
in_first u (x ∷ xs) ys (inr i) = inr (in_first u xs ys i)

pub in_second : {A : Type 0} (u : A) (xs ys : List A) → In u ys → In u (xs ++ ys)
in_second u [] ys i = i
in_second u (x ∷ xs) ys i = inr (in_second u xs ys i)

pub in_either : {A : Type 0} (u : A) (xs ys : List A) → In u (xs ++ ys) → In u xs ⊎ In u ys
in_either u [] ys i = inr i
in_either u (x ∷ xs) ys (inl e) = inl (inl e)
in_either u (x ∷ xs) ys (inr i) = elim (in_either u xs ys i) as (λ _. In u (x ∷ xs) ⊎ In u ys)
    [ inl j ↦ inl (inr j) | inr j ↦ inr j ]

pub in_last : {A : Type 0} (u v : A) (xs : List A) → In u (xs ++ v ∷ []) → In u xs ⊎ (u ≡ v)
in_last u v xs i = elim (in_either u xs (v ∷ []) i) as (λ _. In u xs ⊎ (u ≡ v))
    [ inl j ↦ inl j | inr j ↦ elim j as (λ _. In u xs ⊎ (u ≡ v)) [ inl e ↦ inr e | inr n ↦ absurd n ] ]

pub in_flat_map : {A B : Type 0} (r : A) (f : B → List A) (ks : List B) → In r (flat_map f ks) → (v : B) × In v ks
    × In r (f v)
in_flat_map r f [] i = elim i [ ]
in_flat_map {A} {B} r f (k ∷ ks) i = elim (in_either r (f k) (flat_map f ks) i) as (λ _. (v : B) × In v (k ∷ ks)
    × In r (f v)) [
      | inl j ↦ (k, inl refl, j)
      | inr j ↦ (let m = in_flat_map r f ks j in (m.0, inr m.1, m.2))
    ]

pub flat_map_in : {A B : Type 0} (r : A) (f : B → List A) (v : B) (ks : List B) → In v ks → In r (f v)
    → In r (flat_map f ks)
flat_map_in r f v [] i j = elim i [ ]
flat_map_in r f v (k ∷ ks) (inl e) j = in_first r (f k) (flat_map f ks) (subst (λ z. In r (f z)) e j)
flat_map_in r f v (k ∷ ks) (inr i) j = in_second r (f k) (flat_map f ks) (flat_map_in r f v ks i j)

pub in_map : {A B : Type 0} (f : A → B) (y : B) (xs : List A) → In y (map f xs) → (x : A) × In x xs × (y ≡ f x)
in_map f y [] i = elim i [ ]
in_map f y (x ∷ xs) (inl e) = (x, inl refl, e)
in_map f y (x ∷ xs) (inr i) = let m = in_map f y xs i in (m.0, inr m.1, m.2)

pub in_zip : {A B : Type 0} (xs : List A) (ys : List B) (p : A × B) → In p (zip xs ys) → In p.0 xs × In p.1 ys
in_zip [] ys p i = elim i [ ]
in_zip (x ∷ xs) [] p i = elim i [ ]
in_zip (x ∷ xs) (y ∷ ys) p (inl e) = (inl (ap (λ q. q.0) e), inl (ap (λ q. q.1) e))
in_zip (x ∷ xs) (y ∷ ys) p (inr i) = let m = in_zip xs ys p i in (inr m.0, inr m.1)
