-- Lists of values that stand for others make a sorted map between them.
use Rattle.std.specs.List.{zip, list_any}
use Rattle.std.specs.Prelude.{◌≡◌, ℕ, ℤ, true, false, cond, nat_eq, List, [], ◌∷◌, ◌⊎◌, map, length}
use mathlib.Core.Bool.{true≢false}
use Rattle.std.proofs.Common.{refl, sym, ap, subst, ◌∙◌, inl, inr, arith}
use Rattle.std.proofs.lemmas.Bool.{eqb-true, eqb-false, eq-eqb, or_left, or_right, or_cases}
use Rattle.std.specs.Ordering.{int_eq, is_eq}
use Rattle.chr_base.specs.Rules.{Valuation}
use Rattle.chr_types.specs.OrderTypes.{In}
use Rattle.chr_types.proofs.Holes.{same_yes, yes_same, same_no}
use Rattle.chr_confluence.specs.Representatives.{assignment}
use Rattle.chr_confluence.specs.Rising.{among}
use Rattle.chr_confluence.proofs.Images.{image, image-keeps, in_constants, any_constant, any_pair}
use Rattle.chr_confluence.specs.Sorts.{Sorts, Kind, ordered, equal, free}
use Rattle.chr_confluence.specs.SortMaps.{Map, Sets, KeepsKind, IsSortedMap}
use Rattle.chr_confluence.specs.SortLists.{AtMostEqual, SamePartition, StandsAt, values_at, StandsFor}

-- of every kind of sort, equal values stand for equal values
pub at_most : (k : Kind) (cs us vs : List ℤ) → StandsAt k cs us vs → AtMostEqual cs us vs
at_most ordered cs us vs s = record {
  count = s.count;
  classes = λ p q i j e. same_yes p.1 q.1 (ap is_eq (sym (s.classes p q i j)) ∙ yes_same p.0 q.0 e);
  against = λ p c i j e. same_yes p.1 c (ap is_eq (sym (s.against p c i j)) ∙ yes_same p.0 c e);
}
at_most equal cs us vs s = record {
  count = s.count;
  classes = λ p q i j e. (s.classes p q i j).0 e;
  against = λ p c i j e. (s.against p c i j).0 e;
}
at_most free cs us vs s = s

-- ---- the map between the lists of one sort

module _ (cs us vs : List ℤ) (s : AtMostEqual cs us vs) where
  pairs_image : (ps : List (ℤ × ℤ)) → ((p : ℤ × ℤ) → In p ps → In p (zip us vs)) → (p : ℤ × ℤ) → In p ps → image ps p.0
      ≡ p.1
  pairs_image [] sub p i = absurd i
  pairs_image (q ∷ ps) sub p i = elim (int_eq p.0 q.0) as (λ b. int_eq p.0 q.0 ≡ b → cond b q.1 (image ps p.0) ≡ p.1) [
    | true ↦ λ e. s.classes q p (sub q (inl refl)) (sub p i) (sym (same_yes p.0 q.0 e))
    | false ↦ λ e. pairs_image ps (λ r j. sub r (inr j)) p
        (elim i as (λ _. In p ps) [ inl k ↦ absurd (same_no p.0 q.0 e (ap (λ (r : ℤ × ℤ). r.0) k)) | inr j ↦ j ])
  ] refl

  constant_image : (ps : List (ℤ × ℤ)) → ((p : ℤ × ℤ) → In p ps → In p (zip us vs)) → (c : ℤ) → In c cs → image ps c ≡ c
  constant_image [] sub c i = refl
  constant_image (q ∷ ps) sub c i = elim (int_eq c q.0) as (λ b. int_eq c q.0 ≡ b → cond b q.1 (image ps c) ≡ c) [
    | true ↦ λ e. s.against q c (sub q (inl refl)) i (sym (same_yes c q.0 e))
    | false ↦ λ e. constant_image ps (λ r j. sub r (inr j)) c i
  ] refl

  pub image_pair : (p : ℤ × ℤ) → In p (zip us vs) → image (zip us vs) p.0 ≡ p.1
  image_pair p i = pairs_image (zip us vs) (λ q j. j) p i

  pub image_constant : (c : ℤ) → In c cs → image (zip us vs) c ≡ c
  image_constant c i = constant_image (zip us vs) (λ q j. j) c i

pub among_constant : (ps : List (ℤ × ℤ)) (cs : List ℤ) (c : ℤ) → In c cs → among ps cs c ≡ true
among_constant ps cs c i = or_right (list_any (λ (p : ℤ × ℤ). int_eq c p.0) ps) _ (any_constant c cs i)

pub among_pair : (ps : List (ℤ × ℤ)) (cs : List ℤ) (p : ℤ × ℤ) → In p ps → among ps cs p.0 ≡ true
among_pair ps cs p i = or_left _ (list_any (int_eq p.0) cs) (any_pair p ps i)

first_of_pair : (x : ℤ) (ps : List (ℤ × ℤ)) → list_any (λ (p : ℤ × ℤ). int_eq x p.0) ps ≡ true → (p : ℤ × ℤ) × In p ps
    × (x ≡ p.0)
first_of_pair x [] h = absurd (true≢false (sym h))
first_of_pair x (p ∷ ps) h = elim (or_cases (int_eq x p.0) (list_any (λ (q : ℤ × ℤ). int_eq x q.0) ps) h) as (λ _.
    (q : ℤ × ℤ) × In q (p ∷ ps) × (x ≡ q.0)) [
      | inl e ↦ (p, inl refl, same_yes x p.0 e)
      | inr t ↦ (let w = first_of_pair x ps t in (w.0, inr w.1, w.2))
    ]

-- a value of the set is one of the list's, or a constant
abbrev IsOne : List (ℤ × ℤ) → List ℤ → ℤ → Type 0
IsOne ps cs x = ((p : ℤ × ℤ) × In p ps × (x ≡ p.0)) ⊎ In x cs

one_of : (ps : List (ℤ × ℤ)) (cs : List ℤ) (x : ℤ) → among ps cs x ≡ true → IsOne ps cs x
one_of ps cs x h = elim (or_cases (list_any (λ (p : ℤ × ℤ). int_eq x p.0) ps) (list_any (int_eq x) cs) h) as (λ _.
    IsOne ps cs x) [
      | inl t ↦ inl (first_of_pair x ps t)
      | inr t ↦ inr (in_constants x cs t)
    ]

-- where both lists are equal in the same places, the map between them keeps values apart
module _ (cs us vs : List ℤ) (s : SamePartition cs us vs) where
  some : AtMostEqual cs us vs
  some = at_most equal cs us vs s

  of_pair : (x : ℤ) (p : ℤ × ℤ) → In p (zip us vs) → x ≡ p.0 → image (zip us vs) x ≡ p.1
  of_pair x p i e = ap (image (zip us vs)) e ∙ image_pair cs us vs some p i

  apart_by : (x y : ℤ) → IsOne (zip us vs) cs x → IsOne (zip us vs) cs y → image (zip us vs) x ≡ image (zip us vs) y
      → x ≡ y
  apart_by x y (inl p) (inl q) e = p.2 ∙ (s.classes p.0 q.0 p.1 q.1).1
      (sym (of_pair x p.0 p.1 p.2) ∙ e ∙ of_pair y q.0 q.1 q.2) ∙ sym q.2
  apart_by x y (inl p) (inr j) e = p.2 ∙ (s.against p.0 y p.1 j).1
      (sym (of_pair x p.0 p.1 p.2) ∙ e ∙ image_constant cs us vs some y j)
  apart_by x y (inr i) (inl q) e = sym (q.2 ∙ (s.against q.0 x q.1 i).1
      (sym (of_pair y q.0 q.1 q.2) ∙ sym e ∙ image_constant cs us vs some x i))
  apart_by x y (inr i) (inr j) e = sym (image_constant cs us vs some x i) ∙ e ∙ image_constant cs us vs some y j

kind_kept : (k : Kind) (cs us vs : List ℤ) → StandsAt k cs us vs
    → KeepsKind k (image (zip us vs)) (among (zip us vs) cs)
kind_kept ordered cs us vs s = image-keeps cs us vs s
kind_kept equal cs us vs s = λ x y i j e. apart_by cs us vs s x y (one_of (zip us vs) cs x i)
    (one_of (zip us vs) cs y j) e
kind_kept free cs us vs s = tt

-- ---- the sorted map

module _ (o : Sorts) (ks : List ℕ) (us vs : List ℤ) where
  abbrev pub map_between : Map
  map_between k = image (zip (values_at k ks us) (values_at k ks vs))

  abbrev pub sets_between : Sets
  sets_between k = among (zip (values_at k ks us) (values_at k ks vs)) (o.constants k)

  module _ (s : StandsFor o ks us vs) where
    weak : (k : ℕ) → AtMostEqual (o.constants k) (values_at k ks us) (values_at k ks vs)
    weak k = at_most (o.kind k) (o.constants k) (values_at k ks us) (values_at k ks vs) (s.each k)

    pub is_sorted : IsSortedMap o map_between sets_between
    is_sorted = record {
      there = λ k c i. among_constant (zip (values_at k ks us) (values_at k ks vs)) (o.constants k) c i;
      fixes = λ k c i. image_constant (o.constants k) (values_at k ks us) (values_at k ks vs) (weak k) c i;
      keeps = λ k. kind_kept (o.kind k) (o.constants k) (values_at k ks us) (values_at k ks vs) (s.each k);
    }

    pub sends_pair : (k : ℕ) (p : ℤ × ℤ) → In p (zip (values_at k ks us) (values_at k ks vs))
        → (map_between k p.0 ≡ p.1) × (sets_between k p.0 ≡ true)
    sends_pair k p i = (
      image_pair (o.constants k) (values_at k ks us) (values_at k ks vs) (weak k) p i,
      among_pair (zip (values_at k ks us) (values_at k ks vs)) (o.constants k) p i,
    )

-- the values that two lists give a variable stand beside each other in its sort
pub assigned : (at : ℕ → ℕ) (w : Valuation) (fs : List ℕ) (zs : List ℤ) (y : ℕ) → length fs ≡ length zs → In y fs
    → In (assignment fs zs y, w y) (zip (values_at (at y) (map at fs) zs) (values_at (at y) (map at fs) (map w fs)))
assigned at w [] zs y e i = absurd i
assigned at w (f ∷ fs) [] y e i = absurd (omega (arith, e))
assigned at w (f ∷ fs) (z ∷ zs) y e i = elim (nat_eq y f) as (λ b. nat_eq y f ≡ b
    → In (cond b z (assignment fs zs y), w y)
    (zip (cond (nat_eq (at f) (at y)) (z ∷ values_at (at y) (map at fs) zs) (values_at (at y) (map at fs) zs))
    (cond (nat_eq (at f) (at y)) (w f ∷ values_at (at y) (map at fs) (map w fs))
    (values_at (at y) (map at fs) (map w fs))))) [
      | true ↦ λ t. (let q : y ≡ f = eqb-true y f t in
          subst (λ b. In (z, w y) (zip (cond b (z ∷ values_at (at y) (map at fs) zs) (values_at (at y) (map at fs) zs))
          (cond b (w f ∷ values_at (at y) (map at fs) (map w fs)) (values_at (at y) (map at fs) (map w fs)))))
          (sym (eq-eqb (at f) (at y) (ap at (sym q)))) (inl (λ k. (z, w (q k)))))
      | false ↦ λ t. (let more = assigned at w fs zs y (omega (arith, e))
          (elim i as (λ _. In y fs) [ inl q ↦ absurd (eqb-false y f t q) | inr j ↦ j ]) in
          elim (nat_eq (at f) (at y)) as (λ b. In (assignment fs zs y, w y)
          (zip (cond b (z ∷ values_at (at y) (map at fs) zs) (values_at (at y) (map at fs) zs))
          (cond b (w f ∷ values_at (at y) (map at fs) (map w fs)) (values_at (at y) (map at fs) (map w fs)))))
          [ true ↦ inr more | false ↦ more ])
    ] refl
