-- Ranges that are apart are determined by what they cover.
use Rattle.std.specs.Prelude.{◌≡◌, ◌+◌, ◌<◌, ◌≤◌, ◌||◌, nat_le, Bool, true, false, List, [], ◌∷◌}
use Rattle.std.proofs.Common.{refl, sym, ap, ◌∙◌, subst, arith}
use Rattle.std.specs.List.{AllByRecursion}
use Rattle.std.proofs.lemmas.Bool.Decides.{nat_tests}
use mathlib.Core.Bool.{true≢false}
use Rattle.chr_ops.specs.declared.id.OpId.{OpId}
use Rattle.chr_ops.specs.declared.range.IdRange.{IdRange}
use Rattle.chr_ops.specs.Summaries.{in_range, covers, IsBefore, IsApart, ApartIsOne}
use Rattle.chr_ops.specs.working.Walks.{first_id}
use Rattle.chr_ops.proofs.RangeLookups.{in_origin, in_low, in_high, in_from}

pub record Behind (r : IdRange) (id : OpId) : Type 0 where
  pub origin : r.origin ≤ id.origin
  pub number : r.origin ≡ id.origin → r.hi + 1 < id.number

-- an id of a later range is behind the first
pub behind : (r : IdRange) (ss : List IdRange) (id : OpId) → AllByRecursion (IsBefore r) ss → covers ss id ≡ true
    → Behind r id
behind r [] id all h = absurd (true≢false (sym h))
behind r (s ∷ ss) id all h = by (in_range s id) refl h (behind r ss id all.1)
  where
    by : (b : Bool) → in_range s id ≡ b → b || covers ss id ≡ true → (covers ss id ≡ true → Behind r id) → Behind r id
    by false e g more = more g
    by true e g more =
        let o = in_origin s id e in
        let l = in_low s id e in
        let first = all.0.0 in
        record {
          origin = omega (arith, o, first);
          number =
              λ same. (let before = all.0.1 (same ∙ sym o) in omega (arith, before, l));
        }

-- an id of a list of ranges comes no earlier than the first one's beginning
pub record From (r : IdRange) (id : OpId) : Type 0 where
  pub origin : r.origin ≤ id.origin
  pub number : r.origin ≡ id.origin → r.lo ≤ id.number

pub from_first : (r : IdRange) (rs : List IdRange) (id : OpId) → IsApart (r ∷ rs) → covers (r ∷ rs) id ≡ true
    → From r id
from_first r rs id apart h = by (in_range r id) refl h
  where
    by : (b : Bool) → in_range r id ≡ b → b || covers rs id ≡ true → From r id
    by true e g = (let o = in_origin r id e in record { origin = omega (arith, o); number = λ _. in_low r id e })
    by false e g =
        let b = behind r rs id apart.1 g in
        let rising = apart.0 in
        record { origin = b.origin; number = λ same. (let n = b.number same in omega (arith, n, rising)) }

abbrev next_id : IdRange → OpId
next_id r = record { origin = r.origin; number = r.hi + 1 }

-- the first id is covered
first_covered : (r : IdRange) (rs : List IdRange) → IsApart (r ∷ rs) → covers (r ∷ rs) (first_id r) ≡ true
first_covered r rs apart = ap (λ b. b || covers rs (first_id r)) (in_from r (first_id r) refl (omega arith) apart.0)

-- the id right behind the first range is not covered
next_not : (r : IdRange) (rs : List IdRange) → IsApart (r ∷ rs) → covers (r ∷ rs) (next_id r) ≡ true → ⊥
next_not r rs apart h = by (in_range r (next_id r)) refl h
  where
    by : (b : Bool) → in_range r (next_id r) ≡ b → b || covers rs (next_id r) ≡ true → ⊥
    by true e g = (let l = in_high r (next_id r) e in omega (arith, l))
    by false e g = (let b = (behind r rs (next_id r) apart.1 g).number refl in omega (arith, b))

-- of two lists that cover the same and begin at one id, the first range of the one ends no earlier than that of the
-- other
ends : (r s : IdRange) (rs ss : List IdRange) → IsApart (r ∷ rs) → IsApart (s ∷ ss)
    → ((id : OpId) → covers (r ∷ rs) id ≡ covers (s ∷ ss) id) → r.origin ≡ s.origin → r.lo ≡ s.lo → s.hi ≤ r.hi
ends r s rs ss apart apart' same o l = by (nat_le s.hi r.hi) refl
  where
    by : (b : Bool) → nat_le s.hi r.hi ≡ b → s.hi ≤ r.hi
    by true e = grind (arith, nat_tests)
    by false e =
        let less : r.hi + 1 ≤ s.hi = grind (arith, nat_tests) in
        let rising = apart.0 in
        let here : in_range s (next_id r) ≡ true = in_from s (next_id r) (sym o) (omega (arith, l, rising)) less in
        absurd (next_not r rs apart (same (next_id r) ∙ ap (λ b. b || covers ss (next_id r)) here))

-- an id of the first range is in no later one
pub not_later : (r : IdRange) (rs : List IdRange) (id : OpId) → AllByRecursion (IsBefore r) rs → in_range r id ≡ true
    → covers rs id ≡ false
not_later r rs id all h = by (covers rs id) refl
  where
    by : (b : Bool) → covers rs id ≡ b → b ≡ false
    by false e = refl
    by true e = absurd (let b = (behind r rs id all e).number (in_origin r id h) in let l = in_high r id h in
        omega (arith, b, l))

-- where the first range is the same, what the later ones cover is the same
later_same : (r : IdRange) (rs ss : List IdRange) → IsApart (r ∷ rs) → IsApart (r ∷ ss)
    → ((id : OpId) → covers (r ∷ rs) id ≡ covers (r ∷ ss) id) → (id : OpId) → covers rs id ≡ covers ss id
later_same r rs ss apart apart' same id = by (in_range r id) refl (same id)
  where
    by : (b : Bool) → in_range r id ≡ b → b || covers rs id ≡ b || covers ss id → covers rs id ≡ covers ss id
    by true e g = not_later r rs id apart.1 e ∙ sym (not_later r ss id apart'.1 e)
    by false e g = g

same_first : (r s : IdRange) (rs ss : List IdRange) → IsApart (r ∷ rs) → IsApart (s ∷ ss)
    → ((id : OpId) → covers (r ∷ rs) id ≡ covers (s ∷ ss) id) → r ≡ s
same_first r s rs ss apart apart' same =
    let left = from_first s ss (first_id r) apart' (sym (same (first_id r)) ∙ first_covered r rs apart) in
    let right = from_first r rs (first_id s) apart (same (first_id s) ∙ first_covered s ss apart') in
    let lo = left.origin in
    let ro = right.origin in
    let o : r.origin ≡ s.origin = omega (arith, lo, ro) in
    let ln = left.number (sym o) in
    let rn = right.number o in
    let l : r.lo ≡ s.lo = omega (arith, ln, rn) in
    let up = ends r s rs ss apart apart' same o l in
    let down = ends s r ss rs apart' apart (λ id. sym (same id)) (sym o) (sym l) in
    let h : r.hi ≡ s.hi = omega (arith, up, down) in
    λ i. record { origin = o i; lo = l i; hi = h i }

pub one : ApartIsOne
one [] [] apart apart' same = refl
one [] (s ∷ ss) apart apart' same = absurd (true≢false (sym (first_covered s ss apart') ∙ sym (same (first_id s))))
one (r ∷ rs) [] apart apart' same = absurd (true≢false (sym (first_covered r rs apart) ∙ same (first_id r)))
one (r ∷ rs) (s ∷ ss) apart apart' same = with_first (same_first r s rs ss apart apart' same) (one rs ss apart.2)
  where
    with_first : r ≡ s → (IsApart ss → ((id : OpId) → covers rs id ≡ covers ss id) → rs ≡ ss) → r ∷ rs ≡ s ∷ ss
    with_first e more =
        let moved : IsApart (r ∷ ss) = subst (λ x. IsApart (x ∷ ss)) (sym e) apart' in
        let rest = more apart'.2 (later_same r rs ss apart moved
        (λ id. same id ∙ ap (λ x. covers (x ∷ ss) id) (sym e))) in
        λ i. e i ∷ rest i
