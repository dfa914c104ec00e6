-- The verdict as a walk over the overlaps finds it.
use Rattle.std.specs.Prelude.{◌≡◌, ℕ, zero, suc, ◌+◌, ◌*◌, ◌^◌, ◌<◌, ◌≤◌, Bool, true, false, cond, List, [], ◌∷◌, ◌++◌}
use Rattle.std.specs.Prelude.{length, map, take, get_or}
use Rattle.std.specs.List.{All, filter}
use Rattle.std.proofs.Common.{refl, sym, ap, subst, ◌∙◌, arith, inl, inr, length-take-le}
use Rattle.std.proofs.lemmas.List.{take_more, length-map}
use Rattle.chr_base.specs.declared.rule.Rule.{Rule}
use Rattle.chr_types.specs.OrderTypes.{In}
use Rattle.chr_overlaps.specs.declared.overlap.Overlap.{Overlap}
use Rattle.chr_confluence.specs.Representatives.{guards_hold}
use Rattle.chr_overlaps.specs.declared.cases.TheConstants.{MAX_TYPES}
use Rattle.chr_overlaps.specs.declared.cases.Case.{Case}
use Rattle.chr_overlaps.specs.CaseLists.{case_at}
use Rattle.chr_join.specs.declared.coverage.Coverage.{Coverage}
use Rattle.chr_join.specs.declared.coverage.Coverage.TheVariants.{Joint, Sorted}
use Rattle.chr_join.specs.Coverages.{AreCasesBy}
use Rattle.chr_join.specs.Verdicts.{HasJoinableCasesBy, HaveJoinableCasesBy}
use Rattle.chr_join.specs.working.Checking.{Joins}
use Rattle.chr_join.proofs.Lists.{all_in}

pub filter_few : {A : Type 0} (p : A → Bool) (xs : List A) → length (filter p xs) ≤ length xs
filter_few p [] = omega arith
filter_few p (x ∷ xs) = by (p x) (filter_few p xs)
  where
    by : (b : Bool) → length (filter p xs) ≤ length xs → length (cond b (x ∷ filter p xs) (filter p xs)) ≤ suc
        (length xs)
    by true l = omega (arith, l)
    by false l = omega (arith, l)

more_joinable : (coverage : Coverage) (rules : List Rule) (os : List Overlap) (o : Overlap) (n k : ℕ)
    → HaveJoinableCasesBy coverage rules os n → HasJoinableCasesBy coverage rules o k
    → HaveJoinableCasesBy coverage rules (os ++ o ∷ []) (n + k)
more_joinable coverage rules [] o n k h c = (k, 0, c, refl, omega (arith, h))
more_joinable coverage rules (p ∷ os) o n k h c = let e = h.4 in
    (h.0, h.1 + k, h.2, more_joinable coverage rules os o h.1 k h.3 c, omega (arith, e))

pub joinable_more : (coverage : Coverage) (rules : List Rule) (os : List Overlap) (i : ℕ) (o : Overlap) (total k : ℕ)
    → i < length os → o ≡ get_or os i o → HaveJoinableCasesBy coverage rules (take i os) total
    → HasJoinableCasesBy coverage rules o k → HaveJoinableCasesBy coverage rules (take (i + 1) os) (total + k)
joinable_more coverage rules os i o total k l e h c =
    subst (λ xs. HaveJoinableCasesBy coverage rules xs (total + k))
    (sym (take_more os i o l ∙ ap (λ x. take i os ++ x ∷ []) (sym e)))
    (more_joinable coverage rules (take i os) o total k h c)

-- where each overlap has joinable cases, the overlaps have some number of them in all
pub all_counted : (coverage : Coverage) (rules : List Rule) (os : List Overlap) → All (Joins coverage rules) os
    → (n : ℕ) × HaveJoinableCasesBy coverage rules os n
all_counted coverage rules [] all = (0, refl)
all_counted coverage rules (o ∷ os) all =
    let h = all 0 o (omega arith) in
    let more = all_counted coverage rules os (λ k d l. all (suc k) d (omega (arith, l))) in
    (h.0 + more.0, (h.0, more.0, h.1, more.1, refl))

-- no more values pass than there are
mapped_few : {A B : Type 0} (f : A → B) (p : A → Bool) (xs : List A) (ys : List B) → ys ≡ map f (filter p xs)
    → length xs ≤ MAX_TYPES → length ys ≤ MAX_TYPES
mapped_few f p xs ys e within =
    let are = ap length e in
    let mapped = length-map (filter p xs) f in
    let passed = filter_few p xs in
    omega (arith, are, mapped, passed, within)

none_few : {B : Type 0} (ys : List B) → ys ≡ [] → length ys ≤ MAX_TYPES
none_few ys e = let none = ap length e in omega (arith, none)

-- an overlap that has a list of cases has no more of them than it may have
pub listed_few : (coverage : Coverage) (rules : List Rule) (o : Overlap) (cs : List Case)
    → AreCasesBy coverage rules o cs → length cs ≤ MAX_TYPES
listed_few Joint rules o cs h = elim h.listed as (λ _. length cs ≤ MAX_TYPES) [
  | inl x ↦ none_few cs x.1
  | inr x ↦ mapped_few (case_at o h.rule1 h.rule2 x.classes) (guards_hold x.classes h.rule1 h.rule2) x.representatives
      cs x.cases_are x.within
]
listed_few Sorted rules o cs h = elim h.2.listed as (λ _. length cs ≤ MAX_TYPES) [
  | inl x ↦ none_few cs x.1
  | inr x ↦ mapped_few (case_at o h.2.rule1 h.2.rule2 x.classes) (guards_hold x.classes h.2.rule1 h.2.rule2)
      x.combinations cs x.cases_are x.within
]

few_cases : (coverage : Coverage) (rules : List Rule) (o : Overlap) (n : ℕ) → HasJoinableCasesBy coverage rules o n
    → n ≤ MAX_TYPES
few_cases coverage rules o n h = let number = h.number in let few = listed_few coverage rules o h.cases h.listed in
    omega (arith, number, few)

pub all_few : (coverage : Coverage) (rules : List Rule) (os : List Overlap) (n : ℕ)
    → HaveJoinableCasesBy coverage rules os n → n ≤ length os * MAX_TYPES
all_few coverage rules [] n h = omega (arith, h)
all_few coverage rules (o ∷ os) n h =
    let here = few_cases coverage rules o h.0 h.2 in
    let rest = all_few coverage rules os h.1 h.3 in
    let sum = h.4 in
    omega (arith, here, rest, sum)

-- the number of all cases up to an overlap has 64 bits
pub total_fits : (coverage : Coverage) (rules : List Rule) (os : List Overlap) (i : ℕ) (o : Overlap) (total k : ℕ)
    → length os ≤ 2560000 → i < length os → HaveJoinableCasesBy coverage rules (take i os) total
    → HasJoinableCasesBy coverage rules o k → total + k < 2 ^ 64
total_fits coverage rules os i o total k few l h c =
    let all = all_few coverage rules (take i os) total h in
    let here = few_cases coverage rules o k c in
    let taken = length-take-le i os (omega (arith, l)) in
    omega (arith, all, here, taken, few, l)

pub each_joinable : (coverage : Coverage) (rules : List Rule) (os : List Overlap) (n : ℕ)
    → HaveJoinableCasesBy coverage rules os n → All (λ p. (m : ℕ) × HasJoinableCasesBy coverage rules p m) os
each_joinable coverage rules [] n h k d l = absurd (omega (arith, l))
each_joinable coverage rules (o ∷ os) n h zero d l = (h.0, h.2)
each_joinable coverage rules (o ∷ os) n h (suc k) d l = each_joinable coverage rules os h.1 h.3 k d (omega (arith, l))

-- each of the overlaps has joinable cases
pub joinable_in : (coverage : Coverage) (rules : List Rule) (os : List Overlap) (n : ℕ) (o : Overlap)
    → HaveJoinableCasesBy coverage rules os n → In o os → (m : ℕ) × HasJoinableCasesBy coverage rules o m
joinable_in coverage rules os n o h = all_in (λ p. (m : ℕ) × HasJoinableCasesBy coverage rules p m) os o
    (each_joinable coverage rules os n h)
