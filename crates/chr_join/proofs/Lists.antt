-- Elements of lists: membership, what holds of each, and a list around one of its elements.
use Rattle.std.specs.Prelude.{◌≡◌, ℕ, zero, suc, ◌+◌, ◌<◌, ◌⊎◌, Bool, true, false, cond, MatchBool, List, [], ◌∷◌, ◌++◌}
use Rattle.std.specs.Prelude.{Option, Some, None, IfNone, map, length, take, drop, get_or, slice_get}
use Rattle.std.specs.List.{All, AllZip, filter}
use mathlib.Core.Bool.{true≢false}
use Rattle.std.proofs.Common.{refl, sym, ap, subst, ◌∙◌, arith, inl, inr}
use Rattle.std.proofs.lemmas.List.{take-append-drop, drop_more}
use Rattle.std.proofs.lemmas.List.Elements.{All-cons, All-nil}
use Rattle.std.proofs.lemmas.Option.{none-some, same_Some}
use Rattle.chr_types.specs.OrderTypes.{In}

pub in_middle : {A : Type 0} (before : List A) (x : A) (after : List A) → In x (before ++ x ∷ after)
in_middle [] x after = inl refl
in_middle (y ∷ ys) x after = inr (in_middle ys x after)

-- the list around its element at a place
pub split_at : {A : Type 0} (xs : List A) (k : ℕ) (x : A) → k < length xs → x ≡ get_or xs k x → take k xs ++ x
    ∷ drop (k + 1) xs ≡ xs
split_at xs k x l e =
    ap (λ y. take k xs ++ y ∷ drop (k + 1) xs) e ∙ ap (λ ys. take k xs ++ ys) (sym (drop_more xs k x l))
    ∙ take-append-drop k xs

pub in_at : {A : Type 0} (xs : List A) (k : ℕ) (x : A) → k < length xs → x ≡ get_or xs k x → In x xs
in_at xs k x l e = subst (In x) (split_at xs k x l e) (in_middle (take k xs) x (drop (k + 1) xs))

pub all_rest : {A : Type 0} (P : A → Type 0) (x : A) (xs : List A) → All P (x ∷ xs) → All P xs
all_rest P x xs h k d l = h (suc k) d (omega (arith, l))

pub all_in : {A : Type 0} (P : A → Type 0) (xs : List A) (x : A) → All P xs → In x xs → P x
all_in P [] x h i = absurd i
all_in P (y ∷ ys) x h (inl e) = subst P (sym e) (h zero y (omega arith))
all_in P (y ∷ ys) x h (inr i) = all_in P ys x (all_rest P y ys h) i

pub from_each : {A : Type 0} (P : A → Type 0) (xs : List A) → ((x : A) → In x xs → P x) → All P xs
from_each P [] each k d l = absurd (omega (arith, l))
from_each P (x ∷ xs) each zero d l = each x (inl refl)
from_each P (x ∷ xs) each (suc k) d l = from_each P xs (λ y i. each y (inr i)) k d (omega (arith, l))

-- what holds beside each element holds of it
pub all_right : {A B : Type 0} (R : A → B → Type 0) (Q : B → Type 0) → ((x : A) (y : B) → R x y → Q y)
    → (xs : List A) (ys : List B) → AllZip R xs ys → All Q ys
all_right R Q to [] [] h = All-nil Q
all_right R Q to [] (y ∷ ys) h = absurd h
all_right R Q to (x ∷ xs) [] h = absurd h
all_right R Q to (x ∷ xs) (y ∷ ys) h = All-cons Q y ys (to x y h.0) (all_right R Q to xs ys h.1)

-- what stands beside the first elements
pub beside : {A B : Type 0} (R : A → B → Type 0) (n : ℕ) (xs : List A) (ys : List B) (i : ℕ) (x : A) (y : B)
    → AllZip R (take n xs) ys → x ≡ get_or xs i x → slice_get ys i ≡ Some y → R x y
beside R n xs [] i x y h e s = absurd (none-some y s)
beside R zero [] (z ∷ ys) i x y h e s = absurd h
beside R zero (w ∷ xs) (z ∷ ys) i x y h e s = absurd h
beside R (suc n) [] (z ∷ ys) i x y h e s = absurd h
beside R (suc n) (w ∷ xs) (z ∷ ys) zero x y h e s = subst (R x) (same_Some z y s) (subst (λ a. R a z) (sym e) h.0)
beside R (suc n) (w ∷ xs) (z ∷ ys) (suc i) x y h e s = beside R n xs ys i x y h.1 e s

-- what stands beside the element behind the first ones
pub beside_next : {A B : Type 0} (R : A → B → Type 0) (before : List A) (x : A) (after : List A) (ys : List B) (y : B)
    → AllZip R (before ++ x ∷ after) ys → slice_get ys (length before) ≡ Some y → R x y
beside_next R [] x after [] y h s = absurd h
beside_next R [] x after (z ∷ ys) y h s = subst (R x) (same_Some z y s) h.0
beside_next R (w ∷ before) x after [] y h s = absurd h
beside_next R (w ∷ before) x after (z ∷ ys) y h s = beside_next R before x after ys y h.1 s

pub match_true : (b : Bool) (T F : Type 0) → b ≡ true → MatchBool b T F → T
match_true true T F e h = h
match_true false T F e h = absurd (true≢false (sym e))

-- Two elements of a list for which something does not hold, though it holds for all before them, are one.
pub first_once : {A : Type 0} (P : A → Type 0) (xs ys : List A) (x y : A) (us vs : List A) → xs ++ x ∷ us ≡ ys ++ y ∷ vs
    → All P xs → All P ys → ¬ (P x) → ¬ (P y) → x ≡ y
first_once P [] [] x y us vs e h g no_x no_y = cc
first_once P [] (z ∷ ys) x y us vs e h g no_x no_y =
    absurd (no_x (subst P (let same : z ≡ x = cc in same) (g zero z (omega arith))))
first_once P (z ∷ xs) [] x y us vs e h g no_x no_y =
    absurd (no_y (subst P (let same : z ≡ y = cc in same) (h zero z (omega arith))))
first_once P (z ∷ xs) (w ∷ ys) x y us vs e h g no_x no_y =
    first_once P xs ys x y us vs (let same : xs ++ x ∷ us ≡ ys ++ y ∷ vs = cc in same) (all_rest P z xs h)
    (all_rest P w ys g) no_x no_y

pub from_none : {X : Type 0} (o : Option X) (P : Type 0) → ((x : X) → ¬ (o ≡ Some x)) → IfNone o P → P
from_none None P h p = p
from_none (Some x) P h p = absurd (h x refl)

-- ---- filtered and mapped lists

-- what stands there comes from an element that passes
pub picked : {A B : Type 0} (f : A → B) (p : A → Bool) (xs : List A) (y : B) → In y (map f (filter p xs)) → (x : A)
    × In x xs × (p x ≡ true) × (f x ≡ y)
picked f p [] y i = absurd i
picked f p (x ∷ xs) y i = by (p x) refl i (picked f p xs y)
  where
    by : (b : Bool) → p x ≡ b → In y (map f (cond b (x ∷ filter p xs) (filter p xs)))
        → (In y (map f (filter p xs)) → (z : _) × In z xs × (p z ≡ true) × (f z ≡ y)) → (z : _) × In z (x ∷ xs)
        × (p z ≡ true) × (f z ≡ y)
    by true e (inl q) more = (x, inl refl, e, sym q)
    by true e (inr j) more = let m = more j in (m.0, inr m.1, m.2, m.3)
    by false e j more = let m = more j in (m.0, inr m.1, m.2, m.3)

-- an element that passes stands there
pub placed : {A B : Type 0} (f : A → B) (p : A → Bool) (xs : List A) (x : A) → In x xs → p x ≡ true
    → In (f x) (map f (filter p xs))
placed f p [] x i h = absurd i
placed f p (y ∷ ys) x i h = by (p y) refl i (placed f p ys x)
  where
    by : (b : Bool) → p y ≡ b → (x ≡ y) ⊎ In x ys → (In x ys → p x ≡ true → In (f x) (map f (filter p ys)))
        → In (f x) (map f (cond b (y ∷ filter p ys) (filter p ys)))
    by true e (inl q) more = inl (ap f q)
    by true e (inr j) more = inr (more j h)
    by false e (inl q) more = absurd (let c : true ≡ false = sym h ∙ ap p q ∙ e in cc)
    by false e (inr j) more = more j h
