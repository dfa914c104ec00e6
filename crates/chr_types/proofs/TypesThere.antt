-- The order types of n values among rising constants have a list, or are too many.
use Rattle.std.specs.Prelude.{◌≡◌, ℕ, suc, zero, ℤ, pos, neg_ℤ, negsuc, ◌+ℤ◌, ◌-ℤ◌, ◌≤ℤ◌, ◌<ℤ◌, ◌+◌, ◌^◌, ◌<◌, ◌≤◌}
use Rattle.std.specs.Prelude.{List, [], ◌∷◌, ◌++◌, ◌⊎◌, length}
use Rattle.std.proofs.Common.{refl, sym, subst, ◌∙◌, inl, inr, arith}
use Rattle.std.proofs.lemmas.Bool.{cases_lt}
use Rattle.std.proofs.lemmas.Int.{ints}
use Rattle.chr_types.specs.OrderTypes.{In, Rises, IsValue, AreValues, MoreTypesThan}
use Rattle.chr_types.specs.Representatives.{AreTypes, base, IsFrom}
use Rattle.chr_types.specs.working.Search.{distance}
use Rattle.chr_types.proofs.Bases.{apart, distance_above, distance_below, nearest_in}
use Rattle.chr_types.proofs.ByValue.{AreCandidateValues, lists_from}
use Rattle.chr_types.proofs.Members.{in_first, in_second}
use Rattle.chr_types.proofs.Theorem.{types_are}
use Rattle.chr_types.proofs.BesideFirst.{many_classes}
use Rattle.chr_types.proofs.TooMany.{more_types}

-- ---- rising lists of given members

-- the rising list ls has v and what ks has
pub record Joins (v : ℤ) (ks ls : List ℤ) : Type 0 where
  pub rise : Rises ls
  pub only : (u : ℤ) → In u ls → (u ≡ v) ⊎ In u ks
  pub all : (u : ℤ) → (u ≡ v) ⊎ In u ks → In u ls

pub joined : (v : ℤ) (ks : List ℤ) → Rises ks → (ls : List ℤ) × Joins v ks ls
joined v [] r = (v ∷ [], record { rise = (λ d i. elim i [ ], tt); only = λ u i. i; all = λ u i. i })
joined v (x ∷ ks) r = by (apart v x) (apart x v) (joined v ks r.1)
  where
    first : v <ℤ x → (ls : List ℤ) × Joins v (x ∷ ks) ls
    first l = (
      v ∷ x ∷ ks,
      record {
        rise = (
          λ d i. elim i as (λ _. v <ℤ d) [
            | inl e ↦ subst (λ z. v <ℤ z) (sym e) l
            | inr j ↦
                (let m = r.0 d j in omega (arith, ints, l, m))
          ],
          r,
        );
        only = λ u i. i;
        all = λ u i. i;
      },
    )

    later : x <ℤ v → (ls : List ℤ) × Joins v ks ls → (ls : List ℤ) × Joins v (x ∷ ks) ls
    later l w = (
      x ∷ w.0,
      record {
        rise = (
          λ d i. elim (w.1.only d i) as (λ _. x <ℤ d) [ inl e ↦ subst (λ z. x <ℤ z) (sym e) l | inr j ↦ r.0 d j ],
          w.1.rise,
        );
        only = λ u i. elim i as (λ _. (u ≡ v) ⊎ ((u ≡ x) ⊎ In u ks)) [
          | inl e ↦ inr (inl e)
          | inr j ↦ elim (w.1.only u j) as (λ _. (u ≡ v) ⊎ ((u ≡ x) ⊎ In u ks)) [ inl e ↦ inl e | inr k ↦ inr (inr k) ]
        ];
        all = λ u i. elim i as (λ _. (u ≡ x) ⊎ In u w.0) [
          | inl e ↦ inr (w.1.all u (inl e))
          | inr j ↦ elim j as (λ _. (u ≡ x) ⊎ In u w.0) [ inl e ↦ inl e | inr k ↦ inr (w.1.all u (inr k)) ]
        ];
      },
    )

    there : v ≤ℤ x → x ≤ℤ v → (ls : List ℤ) × Joins v (x ∷ ks) ls
    there l m = (
      x ∷ ks,
      record {
        rise = r;
        only = λ u i. inr i;
        all = λ u i. elim i as (λ _. (u ≡ x) ⊎ In u ks)
            [ inl e ↦ inl (let q : v ≡ x = omega (arith, ints, l, m) in e ∙ q) | inr j ↦ j ];
      },
    )

    by : (v <ℤ x) ⊎ (x ≤ℤ v) → (x <ℤ v) ⊎ (v ≤ℤ x) → (ls : List ℤ) × Joins v ks ls → (ls : List ℤ) × Joins v (x ∷ ks) ls
    by (inl l) c w = first l
    by (inr m) (inl l) w = later l w
    by (inr m) (inr l) w = there l m

-- the rising list ks has those of the list that P holds of
record Picks (P : ℤ → Type 0) (xs ks : List ℤ) : Type 0 where
  rise : Rises ks
  good : (v : ℤ) → In v ks → P v
  all : (v : ℤ) → In v xs → P v → In v ks

picked : (P : ℤ → Type 0) → ((v : ℤ) → P v ⊎ (P v → ⊥)) → (xs : List ℤ) → (ks : List ℤ) × Picks P xs ks
picked P test [] = ([], record { rise = tt; good = λ v i. elim i [ ]; all = λ v i. elim i [ ] })
picked P test (x ∷ xs) = by (test x) (picked P test xs)
  where
    taken : P x → (w : (ks : List ℤ) × Picks P xs ks) → (ls : List ℤ) × Joins x w.0 ls → (ks : List ℤ)
        × Picks P (x ∷ xs) ks
    taken h w j = (
      j.0,
      record {
        rise = j.1.rise;
        good = λ v i. elim (j.1.only v i) as (λ _. P v) [ inl e ↦ subst P (sym e) h | inr k ↦ w.1.good v k ];
        all = λ v i g. elim i as (λ _. In v j.0) [
          | inl e ↦ j.1.all v (inl e)
          | inr k ↦ j.1.all v
              (inr (w.1.all v k g))
        ];
      },
    )

    by : P x ⊎ (P x → ⊥) → (ks : List ℤ) × Picks P xs ks → (ks : List ℤ) × Picks P (x ∷ xs) ks
    by (inl h) w = taken h w (joined x w.0 w.1.rise)
    by (inr n) w = (
      w.0,
      record {
        rise = w.1.rise;
        good = w.1.good;
        all = λ v i g. elim i as (λ _. In v w.0) [ inl e ↦ absurd (n (subst P e g)) | inr k ↦ w.1.all v k g ];
      },
    )

-- ---- the numbers near a base

upward : ℕ → ℤ → List ℤ
upward zero v = v ∷ []
upward (suc k) v = v ∷ upward k (v +ℤ pos 1)

in_upward : (k : ℕ) (v u : ℤ) → v ≤ℤ u → u ≤ℤ (v +ℤ pos k) → In u (upward k v)
unfolding upward
in_upward zero v u l h = inl (omega (arith, ints, l, h))
in_upward (suc k) v u l h = elim (apart v u) as (λ _. In u (v ∷ upward k (v +ℤ pos 1))) [
  | inl m ↦ inr (in_upward k (v +ℤ pos 1) u (omega (arith, ints, m)) (omega (arith, ints, h)))
  | inr m ↦ inl (omega (arith, ints, l, m))
]

around : ℕ → ℤ → List ℤ
around n b = upward (n + n) (b -ℤ pos n)

in_around : (n : ℕ) (b u : ℤ) → distance b u ≤ n → In u (around n b)
unfolding around
in_around n b u d = elim (apart u b) as (λ _. In u (upward (n + n) (b -ℤ pos n))) [
  | inl l ↦ (let e = distance_below b u l in in_upward (n + n) (b -ℤ pos n) u (omega (arith, ints, e, d))
      (omega (arith, ints, e, d)))
  | inr l ↦ (let e = distance_above b u l in in_upward (n + n) (b -ℤ pos n) u (omega (arith, ints, e, d))
      (omega (arith, ints, e, d)))
]

near_any : ℕ → List ℤ → List ℤ
near_any n [] = []
near_any n (b ∷ bs) = around n b ++ near_any n bs

in_near : (n : ℕ) (b u : ℤ) (bs : List ℤ) → In b bs → distance b u ≤ n → In u (near_any n bs)
unfolding near_any
in_near n b u [] i d = elim i [ ]
in_near n b u (c ∷ bs) (inl e) d = in_first u (around n c) (near_any n bs)
    (in_around n c u (subst (λ z. distance z u ≤ n) e d))
in_near n b u (c ∷ bs) (inr i) d = in_second u (around n c) (near_any n bs) (in_near n b u bs i d)

-- what values are counted from
bases : List ℤ → List ℤ
bases [] = negsuc 0 ∷ []
bases (c ∷ cs) = c ∷ cs

base_there : (cs : List ℤ) (v : ℤ) → In (base cs v) (bases cs)
unfolding bases
base_there [] v = inl refl
base_there (c ∷ cs) v = nearest_in c cs v

-- ---- candidates

abbrev IsFit : List ℤ → ℤ → Type 0
IsFit cs v = IsValue v × IsFrom cs v

value_or_not : (v : ℤ) → IsValue v ⊎ (IsValue v → ⊥)
value_or_not v = elim (apart v (neg_ℤ (pos (2 ^ 63)))) as (λ _. IsValue v ⊎ (IsValue v → ⊥)) [
  | inl l ↦ inr (λ h. (let a = h.0 in omega (arith, ints, a, l)))
  | inr m ↦ elim (apart v (pos (2 ^ 63))) as (λ _. IsValue v ⊎ (IsValue v → ⊥)) [
    | inl l ↦ inl (m, l)
    | inr k ↦ inr (λ h. (let a = h.1 in omega (arith, ints, a, k)))
  ]
]

from_or_not : (cs : List ℤ) (v : ℤ) → IsFrom cs v ⊎ (IsFrom cs v → ⊥)
from_or_not [] v = elim (apart v (pos 0)) as (λ _. (pos 0 ≤ℤ v) ⊎ ((pos 0 ≤ℤ v) → ⊥)) [
  | inl l ↦ inr (λ h. omega (arith, ints, l, h))
  | inr m ↦ inl m
]
from_or_not (c ∷ cs) v = inl tt

fit_or_not : (cs : List ℤ) (v : ℤ) → IsFit cs v ⊎ (IsFit cs v → ⊥)
fit_or_not cs v = by (value_or_not v) (from_or_not cs v)
  where
    by : IsValue v ⊎ (IsValue v → ⊥) → IsFrom cs v ⊎ (IsFrom cs v → ⊥) → IsFit cs v ⊎ (IsFit cs v → ⊥)
    by (inl a) (inl b) = inl (a, b)
    by (inl a) (inr n) = inr (λ h. n h.1)
    by (inr n) b = inr (λ h. n h.0)

candidates_there : (n : ℕ) (cs : List ℤ) → (ks : List ℤ) × AreCandidateValues n cs ks
candidates_there n cs =
    let w = picked (IsFit cs) (fit_or_not cs) (near_any n (bases cs)) in (
      w.0,
      record {
        rise = w.1.rise;
        good = w.1.good;
        all = λ v iv fv d. w.1.all v (in_near n (base cs v) v (bases cs) (base_there cs v) d) (iv, fv);
      },
    )

-- ---- the list

pub types_there : (n : ℕ) (cs : List ℤ) → n < 2 ^ 63 → Rises cs → AreValues cs → (rs : List (List ℤ)) × AreTypes n cs rs
types_there n cs small rises values =
    let w = candidates_there n cs in (lists_from cs w.0 n [] [], types_are n cs w.0 small rises values w.1)

-- there is a list of all order types that is within the limit, or there are more than the limit
pub types_or_more : (limit n : ℕ) (cs : List ℤ) → limit < 2 ^ 64 → Rises cs → AreValues cs
    → ((rs : List (List ℤ)) × AreTypes n cs rs × (length rs ≤ limit)) ⊎ MoreTypesThan limit n cs
types_or_more limit n cs l rises values = by (cases_lt 64 n)
  where
    listed : (w : (rs : List (List ℤ)) × AreTypes n cs rs) → (limit < length w.0) ⊎ (length w.0 ≤ limit)
        → ((rs : List (List ℤ)) × AreTypes n cs rs × (length rs ≤ limit)) ⊎ MoreTypesThan limit n cs
    listed w (inl more) = inr (more_types limit n cs w.0 w.1 more)
    listed w (inr few) = inl (w.0, w.1, few)

    by : (64 < n) ⊎ (n ≤ 64) → ((rs : List (List ℤ)) × AreTypes n cs rs × (length rs ≤ limit))
        ⊎ MoreTypesThan limit n cs
    by (inl h) = inr (many_classes limit n cs l h)
    by (inr h) =
        let w = types_there n cs (omega (arith, h)) rises values in
        listed w (cases_lt limit (length w.0))
