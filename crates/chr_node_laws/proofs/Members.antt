-- Members of lists, and of lists of lists.
use Rattle.std.proofs.Common.{◌≡◌, ◌⊎◌, inl, inr, ℕ, ◌<◌, List, [], ◌∷◌, ◌++◌, length, refl, sym, subst, arith}
use Rattle.std.specs.List.{Contains, flat_map}
use Rattle.std.proofs.lemmas.List.Elements.{Contains-append_left, Contains-append_right, Contains-append_cases}
use Rattle.std.proofs.lemmas.List.Elements.{Contains-push, Contains-push_cases}

pub none_in_nil : {A : Type 0} (x : A) → Contains [] x → ⊥
none_in_nil x there = let below : there.0 < 0 = there.1 in absurd (omega arith)

pub first : {A : Type 0} (x : A) (xs : List A) → Contains (x ∷ xs) x
first x xs = Contains-append_left (x ∷ []) xs x (Contains-push [] x)

pub later : {A : Type 0} (y : A) (xs : List A) (x : A) → Contains xs x → Contains (y ∷ xs) x
later y xs x there = Contains-append_right (y ∷ []) xs x there

pub cases : {A : Type 0} (y : A) (xs : List A) (x : A) → Contains (y ∷ xs) x → (y ≡ x) ⊎ Contains xs x
cases y xs x there = elim (Contains-append_cases (y ∷ []) xs x there) [
  | inl one ↦ elim (Contains-push_cases [] y x one) [ inl none ↦ absurd (none_in_nil x none) | inr is ↦ inl is ]
  | inr rest ↦ inr rest
]

pub into_flat : {A B : Type 0} (f : A → List B) (xs : List A) (x : A) (y : B) → Contains xs x → Contains (f x) y
    → Contains (flat_map f xs) y
into_flat f [] x y there inside = absurd (none_in_nil x there)
into_flat {A} {B} f (z ∷ xs) x y there inside = elim (cases z xs x there) [
  | inl is ↦ Contains-append_left (f z) (flat_map f xs) y (subst (λ (a : A). Contains (f a) y) (sym is) inside)
  | inr rest ↦ Contains-append_right (f z) (flat_map f xs) y (into_flat f xs x y rest inside)
]

pub from_flat : {A B : Type 0} (f : A → List B) (xs : List A) (y : B) → Contains (flat_map f xs) y
    → (x : A) × Contains xs x × Contains (f x) y
from_flat f [] y there = absurd (none_in_nil y there)
from_flat f (z ∷ xs) y there = elim (Contains-append_cases (f z) (flat_map f xs) y there) [
  | inl here ↦ (z, first z xs, here)
  | inr rest ↦ let inner = from_flat f xs y rest in (inner.0, later z xs inner.0 inner.1, inner.2)
]
