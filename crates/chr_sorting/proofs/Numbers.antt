-- The first numbers that are no constants, found one after the other.
use Rattle.std.specs.Prelude.{◌≡◌, ℕ, zero, suc, ℤ, pos, negsuc, ◌+ℤ◌, ◌≤ℤ◌, ◌<ℤ◌, ◌+◌, ◌-◌, ◌^◌, ◌<◌, ◌≤◌, ◌⊎◌, true}
use Rattle.std.specs.Prelude.{false, List, [], ◌∷◌, ◌++◌, length, take, get_or}
use Rattle.std.proofs.Common.{sym, ap, subst, ◌∙◌, inl, inr, arith}
use Rattle.std.proofs.lemmas.Bool.{cases_lt}
use Rattle.std.proofs.lemmas.Int.{ints, to_z-of_z, of_z-to_z}
use mir.Val.{SFits, of_z, to_z}
use mir.Syntax.{w64}
use lib.Signed.{le_z}
use Rattle.std.proofs.lemmas.List.{take_more, length-append}
use Rattle.chr_types.specs.OrderTypes.{In, Rises}
use Rattle.chr_types.proofs.Bases.{apart}
use Rattle.chr_types.proofs.CandidateSteps.{rises_more}
use Rattle.chr_types.proofs.Members.{in_at, in_first, in_second, in_last}
use Rattle.chr_sorting.specs.SortedCaseLists.{AreFirstNumbers}
use Rattle.chr_sorting.specs.working.Numbers.{AreNumbersBelow}

pub none_found : (cs : List ℤ) → AreNumbersBelow cs 0 [] (pos 0)
none_found cs = record {
  from = omega (arith, ints);
  few = omega (arith, ints);
  there = omega arith;
  before = λ c i. absurd i;
  rise = tt;
  new = λ z i. absurd i;
  all = λ x l h. absurd (omega (arith, ints, l, h));
}

-- of rising numbers those behind the first ones are not below the next
not_before : (cs : List ℤ) (k : ℕ) (d c : ℤ) → Rises cs → In c cs → In c (take k cs)
    ⊎ ((k < length cs) × (get_or cs k d ≤ℤ c))
not_before [] k d c r i = absurd i
not_before (x ∷ cs) zero d c r (inl e) = inr (omega arith, omega (arith, ints, e))
not_before (x ∷ cs) zero d c r (inr i) = let l = r.0 c i in inr (omega arith, omega (arith, ints, l))
not_before (x ∷ cs) (suc k) d c r (inl e) = inl (inl e)
not_before (x ∷ cs) (suc k) d c r (inr i) = elim (not_before cs k d c r.1 i) as (λ _. In c (x ∷ take k cs)
    ⊎ ((suc k < suc (length cs)) × (get_or cs k d ≤ℤ c))) [
      | inl j ↦ inl (inr j)
      | inr h ↦ (let l = h.0 in inr (omega (arith, l), h.1))
    ]

-- one constant more is passed
passed_before : (cs : List ℤ) (k : ℕ) (d b : ℤ) → k < length cs → get_or cs k d <ℤ b
    → ((c : ℤ) → In c (take k cs) → c <ℤ b) → (c : ℤ) → In c (take (k + 1) cs) → c <ℤ b
passed_before cs k d b l h all c i = elim (in_last c (get_or cs k d) (take k cs)
    (subst (In c) (take_more cs k d l) i)) as (λ _. c <ℤ b) [
      | inl j ↦ all c j
      | inr e ↦ subst (λ z. z <ℤ b) (sym e) h
    ]

-- a lesser constant
pub lesser_passed : (cs us : List ℤ) (k : ℕ) (b d : ℤ) → k < length cs → get_or cs k d <ℤ b → AreNumbersBelow cs k us b
    → AreNumbersBelow cs (k + 1) us b
lesser_passed cs us k b d l h f = record {
  from = f.from;
  few = (let w = f.few in omega (arith, ints, w));
  there = omega (arith, l);
  before = passed_before cs k d b l h f.before;
  rise = f.rise;
  new = f.new;
  all = f.all;
}

-- the number is a constant
pub constant_passed : (cs us : List ℤ) (k : ℕ) (b d : ℤ) → k < length cs → get_or cs k d ≡ b → AreNumbersBelow cs k us b
    → AreNumbersBelow cs (k + 1) us (b +ℤ pos 1)
constant_passed cs us k b d l e f = record {
  from = (let w = f.from in omega (arith, ints, w));
  few = (let w = f.few in omega (arith, ints, w));
  there = omega (arith, l);
  before = passed_before cs k d (b +ℤ pos 1) l (omega (arith, ints, e))
      (λ c i. (let h = f.before c i in omega (arith, ints, h)));
  rise = f.rise;
  new = λ z i. (let h = f.new z i in let m = h.1 in (h.0, omega (arith, ints, m), h.2));
  all = λ x lo hi. elim (apart x b) as (λ _. In x us ⊎ In x cs) [
    | inl m ↦ f.all x lo m
    | inr m ↦ inr (subst (λ z. In z cs) (let q : get_or cs k d ≡ x = omega (arith, ints, e, m, hi) in q)
        (in_at cs k d l))
  ];
}

-- the number is no constant
pub number_found : (cs us : List ℤ) (k : ℕ) (b d : ℤ) → Rises cs → (k < length cs → b <ℤ get_or cs k d)
    → AreNumbersBelow cs k us b → AreNumbersBelow cs k (us ++ b ∷ []) (b +ℤ pos 1)
number_found cs us k b d r h f = record {
  from = (let w = f.from in omega (arith, ints, w));
  few = (let w = f.few in let n = length-append us (b ∷ []) in omega (arith, ints, w, n));
  there = f.there;
  before = λ c i. (let m = f.before c i in omega (arith, ints, m));
  rise = rises_more us b f.rise (λ z i. (f.new z i).1);
  new = λ z i. elim (in_last z b us i) as (λ _. (pos 0 ≤ℤ z) × (z <ℤ (b +ℤ pos 1)) × (¬ In z cs)) [
    | inl j ↦ (let m = f.new z j in let w = m.1 in (m.0, omega (arith, ints, w), m.2))
    | inr e ↦ (let w = f.from in (
      omega (arith, ints, w, e),
      omega (arith, ints, e),
      λ j. none (subst (λ y. In y cs) e j),
    ))
  ];
  all = λ x lo hi. elim (apart x b) as (λ _. In x (us ++ b ∷ []) ⊎ In x cs) [
    | inl m ↦ elim (f.all x lo m) as (λ _. In x (us ++ b ∷ []) ⊎ In x cs)
        [ inl i ↦ inl (in_first x us (b ∷ []) i) | inr i ↦ inr i ]
    | inr m ↦ inl (in_second x us (b ∷ []) (inl (omega (arith, ints, m, hi))))
  ];
}
  where
    none : In b cs → ⊥
    none i = elim (not_before cs k d b r i) as (λ _. ⊥) [
      | inl j ↦ (let m = f.before b j in absurd (omega (arith, ints, m)))
      | inr m ↦ (let a = h m.0 in let c = m.1 in absurd (omega (arith, ints, a, c)))
    ]

-- the numbers that are found are the first ones that are no constants
pub first_found : (cs us : List ℤ) (k : ℕ) (b : ℤ) → length cs + length us ≤ 2 ^ 62 → AreNumbersBelow cs k us b
    → AreFirstNumbers cs us
first_found cs us k b l f = record {
  values = λ z i. (let h = f.new z i in let lo = h.0 in let hi = h.1 in let w = f.few in let t = f.there in
      (omega (arith, ints, lo), omega (arith, ints, hi, w, t, l)));
  rise = f.rise;
  new = λ z i. (let h = f.new z i in (h.0, h.2));
  all = λ z x i lo hi. (let h = (f.new z i).1 in f.all x lo (omega (arith, ints, hi, h)));
}

-- ---- there are as many as wanted

-- there are n first numbers that are no constants
abbrev pub HasFirst : List ℤ → ℕ → Type 0
HasFirst cs n = (us : List ℤ) × (length us ≡ n) × AreFirstNumbers cs us

-- from what is found, n numbers are found in at most `left` steps
abbrev GoesOn : List ℤ → ℕ → ℕ → Type 0
GoesOn cs n left = (k : ℕ) (us : List ℤ) (b : ℤ) → (length cs - k) + (n - length us) ≤ left → length us ≤ n
    → AreNumbersBelow cs k us b → HasFirst cs n

one_more : (cs : List ℤ) (n : ℕ) → Rises cs → (left : ℕ) → GoesOn cs n left → (k : ℕ) (us : List ℤ) (b : ℤ)
    → (length cs - k) + (n - length us) ≤ suc left → length us < n → AreNumbersBelow cs k us b → HasFirst cs n
one_more cs n r left on k us b m h f = by (cases_lt k (length cs))
  where
    push : (k < length cs → b <ℤ get_or cs k b) → HasFirst cs n
    push g = (
        let t = length-append us (b ∷ []) in
        on k (us ++ b ∷ []) (b +ℤ pos 1) (omega (arith, m, h, t)) (omega (arith, h, t)) (number_found cs us k b b r g f)
        )

    at : k < length cs → (get_or cs k b <ℤ b) ⊎ (b ≤ℤ get_or cs k b) → (b <ℤ get_or cs k b) ⊎ (get_or cs k b ≤ℤ b)
        → HasFirst cs n
    at g (inl lo) q = on (k + 1) us b (omega (arith, m, g)) (omega (arith, h)) (lesser_passed cs us k b b g lo f)
    at g (inr lo) (inl hi) = push (λ _. hi)
    at g (inr lo) (inr hi) = on (k + 1) us (b +ℤ pos 1) (omega (arith, m, g)) (omega (arith, h))
        (constant_passed cs us k b b g (omega (arith, ints, lo, hi)) f)

    by : (k < length cs) ⊎ (length cs ≤ k) → HasFirst cs n
    by (inl g) = at g (apart (get_or cs k b) b) (apart b (get_or cs k b))
    by (inr g) = push (λ m. absurd (omega (arith, m, g)))

goes_on : (cs : List ℤ) (n : ℕ) → length cs + n ≤ 2 ^ 62 → Rises cs → (left : ℕ) → GoesOn cs n left
goes_on cs n few r zero k us b m l f = (us, omega (arith, m, l), first_found cs us k b (omega (arith, few, l)) f)
goes_on cs n few r (suc left) k us b m l f = elim (cases_lt (length us) n) as (λ _. HasFirst cs n) [
  | inl h ↦ one_more cs n r left (goes_on cs n few r left) k us b m h f
  | inr h ↦ (us, omega (arith, h, l), first_found cs us k b (omega (arith, few, l)) f)
]

pub first_there : (cs : List ℤ) (n : ℕ) → length cs + n ≤ 2 ^ 62 → Rises cs → HasFirst cs n
first_there cs n few r = goes_on cs n few r (length cs + n) 0 [] (pos 0) (omega arith) (omega arith) (none_found cs)

-- ---- numbers as bits

pub small_fits : (z : ℤ) → pos 0 ≤ℤ z → z <ℤ pos (2 ^ 63) → SFits w64 z
small_fits (pos n) lo hi = record { sfits = omega (arith, ints, hi) }
small_fits (negsuc n) lo hi = absurd (omega (arith, ints, lo))

pub more_fits : (cs us : List ℤ) (k : ℕ) (b : ℤ) (n : ℕ) → length cs + n ≤ 2 ^ 62 → length us ≤ n
    → AreNumbersBelow cs k us b → SFits w64 (b +ℤ pos 1)
more_fits cs us k b n l h f =
    let lo = f.from in let hi = f.few in let t = f.there in
    small_fits (b +ℤ pos 1) (omega (arith, ints, lo)) (omega (arith, ints, hi, t, l, h))

pub same_bits : (x : ℤ) (bits : ℕ) → SFits w64 x → of_z w64 x ≡ bits → x ≡ to_z w64 bits
same_bits x bits f e = sym (to_z-of_z w64 x f) ∙ ap (to_z w64) e

pub other_bits : (x : ℤ) (bits : ℕ) → SFits w64 x → bits < 2 ^ 64 → x ≡ to_z w64 bits → of_z w64 x ≡ bits
other_bits x bits f l e = ap (of_z w64) e ∙ of_z-to_z w64 bits l

pub below_bits : (x b : ℤ) → SFits w64 x → le_z (to_z w64 (of_z w64 x)) b ≡ true → x ≤ℤ b
below_bits x b f e = grind (arith, ints, to_z-of_z)

pub above_bits : (x b : ℤ) → SFits w64 x → le_z (to_z w64 (of_z w64 x)) b ≡ false → b <ℤ x
above_bits x b f e = grind (arith, ints, to_z-of_z)

pub below : (x b : ℤ) → x ≤ℤ b → ¬ (x ≡ b) → x <ℤ b
below x b l n = elim (apart x b) as (λ _. x <ℤ b) [ inl h ↦ h | inr h ↦ absurd (n (omega (arith, ints, l, h))) ]
