-- The map between two lists of values of one order type keeps the order, fixes the constants, and carries the one list
-- to the other.
use Rattle.std.specs.Prelude.{◌≡◌, ℕ, ℤ, true, false, ◌||◌, cond, List, [], ◌∷◌, ◌⊎◌, map, length, Some, slice_get}
use Rattle.std.specs.List.{list_any, zip}
use Rattle.std.proofs.Common.{refl, sym, ap, subst, ◌∙◌, inl, inr, arith}
use mathlib.Core.Bool.{true≢false}
use Rattle.std.proofs.lemmas.Bool.{or_left, or_right}
use Rattle.std.specs.Ordering.{int_cmp, int_eq, ordering_reverse}
use Rattle.std.specs.Cmp.{tied_itself, int_cmp_total}
use Rattle.std.specs.FinMap.{int_cmp-IsAntisymmetric}
use Rattle.chr_base.specs.declared.rule.Rule.{Rule}
use Rattle.chr_types.specs.OrderTypes.{In, SameType, AreValues}
use Rattle.chr_types.specs.Representatives.{AreTypes}
use Rattle.chr_types.proofs.Holes.{same_yes, yes_same}
use Rattle.chr_confluence.specs.Constants.{AreConstants}
use Rattle.chr_confluence.specs.Rising.{KeepsOrder, FixesRule, among}

-- the value at the place of x in the other list, and else x
abbrev pub image : List (ℤ × ℤ) → ℤ → ℤ
image [] x = x
image (p ∷ ps) x = cond (int_eq x p.0) p.1 (image ps x)

pub in_constants : (x : ℤ) (cs : List ℤ) → list_any (int_eq x) cs ≡ true → In x cs
in_constants x [] h = absurd (true≢false (sym h))
in_constants x (c ∷ cs) h =
    elim (int_eq x c) as (λ b. int_eq x c ≡ b → (b || list_any (int_eq x) cs) ≡ true → (x ≡ c) ⊎ In x cs)
    [ true ↦ λ e _. inl (same_yes x c e) | false ↦ λ e h. inr (in_constants x cs h) ] refl h

pub any_constant : (x : ℤ) (cs : List ℤ) → In x cs → list_any (int_eq x) cs ≡ true
any_constant x [] h = absurd h
any_constant x (c ∷ cs) (inl e) = or_left _ _ (yes_same x c e)
any_constant x (c ∷ cs) (inr h) = or_right (int_eq x c) _ (any_constant x cs h)

pub any_pair : (p : ℤ × ℤ) (ps : List (ℤ × ℤ)) → In p ps → list_any (λ q. int_eq p.0 q.0) ps ≡ true
any_pair p [] h = absurd h
any_pair p (q ∷ ps) (inl e) = or_left _ _ (yes_same p.0 q.0 (ap (λ (r : ℤ × ℤ). r.0) e))
any_pair p (q ∷ ps) (inr h) = or_right (int_eq p.0 q.0) _ (any_pair p ps h)

image_in : (x : ℤ) (qs : List (ℤ × ℤ)) → (In (x, image qs x) qs)
    ⊎ ((image qs x ≡ x) × (list_any (λ p. int_eq x p.0) qs ≡ false))
image_in x [] = inr (refl, refl)
image_in x (q ∷ qs) = elim (int_eq x q.0) as (λ b. int_eq x q.0 ≡ b
    → (((x, cond b q.1 (image qs x)) ≡ q) ⊎ In (x, cond b q.1 (image qs x)) qs)
    ⊎ ((cond b q.1 (image qs x) ≡ x) × ((b || list_any (λ p. int_eq x p.0) qs) ≡ false))) [
      | true ↦ λ e. inl (inl (λ i. (same_yes x q.0 e i, q.1)))
      | false ↦ λ e. elim (image_in x qs) as (λ _. (((x, image qs x) ≡ q) ⊎ In (x, image qs x) qs)
          ⊎ ((image qs x ≡ x) × (list_any (λ p. int_eq x p.0) qs ≡ false))) [ inl h ↦ inl (inr h) | inr h ↦ inr h ]
    ] refl

module _ (cs us vs : List ℤ) (type : SameType cs us vs) where
  abbrev Sends : ℤ → ℤ → Type 0
  Sends x y = In (x, y) (zip us vs) ⊎ (In x cs × (y ≡ x))

  sends_alike : (x y x' y' : ℤ) → Sends x y → Sends x' y' → int_cmp x x' ≡ int_cmp y y'
  sends_alike x y x' y' (inl p) (inl q) = type.classes (x, y) (x', y') p q
  sends_alike x y x' y' (inl p) (inr q) = type.against (x, y) x' p q.0 ∙ ap (int_cmp y) (sym q.1)
  sends_alike x y x' y' (inr p) (inl q) =
      int_cmp_total.antisymm x x' ∙ ap ordering_reverse (type.against (x', y') x q p.0)
      ∙ sym (int_cmp_total.antisymm x y') ∙ ap (λ z. int_cmp z y') (sym p.1)
  sends_alike x y x' y' (inr p) (inr q) = let e = sym p.1 in let f = sym q.1 in λ i. int_cmp (e i) (f i)

  sends_one : (x y y' : ℤ) → Sends x y → Sends x y' → y ≡ y'
  sends_one x y y' p q = int_cmp-IsAntisymmetric y y' (sym (sends_alike x y x y' p q) ∙ tied_itself int_cmp_total x)

  sends_image : (x : ℤ) → among (zip us vs) cs x ≡ true → Sends x (image (zip us vs) x)
  sends_image x h = elim (image_in x (zip us vs)) as (λ _. Sends x (image (zip us vs) x)) [
    | inl p ↦ inl p
    | inr q ↦ inr (
      in_constants x cs (let e : (false || list_any (int_eq x) cs) ≡ true =
          subst (λ b. (b || list_any (int_eq x) cs) ≡ true) q.1 h in e),
      q.0,
    )
  ]

  pub image-keeps : KeepsOrder (image (zip us vs)) (among (zip us vs) cs)
  image-keeps x y h g = sym (sends_alike x (image (zip us vs) x) y (image (zip us vs) y) (sends_image x h)
      (sends_image y g))

  pub among-constant : (c : ℤ) → In c cs → among (zip us vs) cs c ≡ true
  among-constant c i = or_right (list_any (λ p. int_eq c p.0) (zip us vs)) _ (any_constant c cs i)

  pub image-constant : (c : ℤ) → In c cs → image (zip us vs) c ≡ c
  image-constant c i = sends_one c (image (zip us vs) c) c (sends_image c (among-constant c i)) (inr (i, refl))

  pub among-class : (p : ℤ × ℤ) → In p (zip us vs) → among (zip us vs) cs p.0 ≡ true
  among-class p i = or_left _ (list_any (int_eq p.0) cs) (any_pair p (zip us vs) i)

  pub image-class : (p : ℤ × ℤ) → In p (zip us vs) → image (zip us vs) p.0 ≡ p.1
  image-class p i = sends_one p.0 (image (zip us vs) p.0) p.1 (sends_image p.0 (among-class p i)) (inl i)

  -- the list's own values are in the set
  pub among-value : (x : ℤ) → In x us → among (zip us vs) cs x ≡ true
  among-value x i = let p = paired us vs type.count x i in among-class (x, p.0) p.1
    where
      paired : (xs ys : List ℤ) → length xs ≡ length ys → (x : ℤ) → In x xs → (y : ℤ) × In (x, y) (zip xs ys)
      paired [] ys e x i = absurd i
      paired (u ∷ xs) [] e x i = absurd (omega (arith, e))
      paired (u ∷ xs) (y ∷ ys) e x (inl s) = (y, inl (λ j. (s j, y)))
      paired (u ∷ xs) (y ∷ ys) e x (inr i) = let p = paired xs ys (omega (arith, e)) x i in (p.0, inr p.1)

  map-images : (xs ys : List ℤ) → length xs ≡ length ys → ((p : ℤ × ℤ) → In p (zip xs ys) → In p (zip us vs))
      → map (image (zip us vs)) xs ≡ ys
  map-images [] [] e h = refl
  map-images [] (y ∷ ys) e h = absurd (omega (arith, e))
  map-images (x ∷ xs) [] e h = absurd (omega (arith, e))
  map-images (x ∷ xs) (y ∷ ys) e h =
      let one = image-class (x, y) (h (x, y) (inl refl)) in
      let more = map-images xs ys (omega (arith, e)) (λ p i. h p (inr i)) in
      λ i. one i ∷ more i

  pub map-image : map (image (zip us vs)) us ≡ vs
  map-image = map-images us vs type.count (λ p i. i)

  -- the map fixes the constants of the rules
  pub image-fixes : (rules : List Rule) → AreConstants rules cs → (i : ℕ) (r : Rule) → slice_get rules i ≡ Some r
      → FixesRule (image (zip us vs)) (among (zip us vs) cs) r
  image-fixes rules constants i r at c g =
      let stands = constants.all c (i, r, at, g) in
      (among-constant c stands, image-constant c stands)

-- Each list of 64-bit values is the image of its type's representative.
pub from_representative : (n : ℕ) (cs : List ℤ) (rs : List (List ℤ)) → AreTypes n cs rs → (vs : List ℤ) → length vs ≡ n
    → AreValues vs
    → (r : List ℤ) × (f : ℤ → ℤ) × In r rs × KeepsOrder f (among (zip r vs) cs) × ((c : ℤ) → In c cs → f c ≡ c)
    × (map f r ≡ vs)
from_representative n cs rs types vs count values =
    let w = types.complete vs count values in
    (w.0, image (zip w.0 vs), w.1, image-keeps cs w.0 vs w.2, image-constant cs w.0 vs w.2, map-image cs w.0 vs w.2)
