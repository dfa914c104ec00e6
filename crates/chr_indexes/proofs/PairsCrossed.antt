-- Rows of two indexes.
use Rattle.std.proofs.Common.{◌≡◌, ℕ, zero, suc, ◌-◌, ◌<◌, ◌≤◌, List, [], ◌∷◌, ◌++◌, length, get_or, set, ℤ, Bool, true}
use Rattle.std.proofs.Common.{false, cond, nat_eq, Option, refl, sym, ap, subst, ◌∙◌, arith}
use Rattle.std.specs.Prelude.{Some, None, IfSome}
use Rattle.std.specs.Option.{SomeIff}
use Rattle.std.specs.Cmp.{unsigned_Decides}
use Rattle.std.proofs.lemmas.Option.{same_Some}
use Rattle.chr_indexes.specs.RangedRows.{Entry, Pair, IsWanted, IsCrossed}
use Rattle.chr_indexes.specs.declared.ranges.range.Range.{Range}
use Rattle.chr_indexes.specs.working.Pairs.{pair_of, pairs_of}

none_right : (left : Option Entry) → pair_of left None ≡ None
none_right None = refl
none_right (Some e) = refl

pair_at : (lefts rights : List (Option Entry)) (r : ℕ) → get_or (pairs_of lefts rights) r None
    ≡ pair_of (get_or lefts r None) (get_or rights r None)
pair_at [] rights r = refl
pair_at (x ∷ lefts) [] r = sym (none_right (get_or (x ∷ lefts) r None))
pair_at (x ∷ lefts) (y ∷ rights) zero = refl
pair_at (x ∷ lefts) (y ∷ rights) (suc r) = pair_at lefts rights r

-- what both entries are, where they are a pair
record AreBoth (l r : Option Entry) (p : Pair) : Type 0 where
  e : Entry
  f : Entry
  left : l ≡ Some e
  right : r ≡ Some f
  hash : e.hash ≡ p.hash
  same : f.hash ≡ p.hash
  first : e.value ≡ p.first
  second : f.value ≡ p.second

pair_cond : (b : Bool) (e f : Entry) (p : Pair) → nat_eq e.hash f.hash ≡ b
    → ◌≡◌ {A = Option Pair} (cond b (Some (record { hash = e.hash; first = e.value; second = f.value })) None) (Some p)
    → AreBoth (Some e) (Some f) p
pair_cond true e f p is there =
    let same : e.hash ≡ f.hash = (unsigned_Decides e.hash f.hash).0 is in
    let p_is : ◌≡◌ {A = Pair} (record { hash = e.hash; first = e.value; second = f.value }) p = same_Some _ p there in
    record {
      e = e;
      f = f;
      left = refl;
      right = refl;
      hash = ap (λ (q : Pair). q.hash) p_is;
      same = sym same ∙ ap (λ (q : Pair). q.hash) p_is;
      first = ap (λ (q : Pair). q.first) p_is;
      second = ap (λ (q : Pair). q.second) p_is;
    }
pair_cond false e f p is there = absurd (let z : ◌≡◌ {A = Option Pair} None (Some p) = there in cc)

both_of : (left right : Option Entry) (p : Pair) → pair_of left right ≡ Some p → AreBoth left right p
both_of None right p there = absurd (let z : ◌≡◌ {A = Option Pair} None (Some p) = there in cc)
both_of (Some e) None p there = absurd (let z : ◌≡◌ {A = Option Pair} None (Some p) = there in cc)
both_of (Some e) (Some f) p there = pair_cond (nat_eq e.hash f.hash) e f p refl there

pub pair_made : (e f : Entry) → e.hash ≡ f.hash → pair_of (Some e) (Some f)
    ≡ Some (record { hash = e.hash; first = e.value; second = f.value })
pair_made e f same = ap (λ b. cond b (Some (record { hash = e.hash; first = e.value; second = f.value })) None)
    ((unsigned_Decides e.hash f.hash).1 same)

-- a pair has a hash and values in the ranges just where each of its entries has that hash and a value in its range
pub crossed_both : (lefts rights : List (Option Entry)) (hash : ℕ) (first second : Range) (r : ℕ)
    → IsCrossed (pairs_of lefts rights) hash first second r
    → IsWanted lefts hash first r × IsWanted rights hash second r
crossed_both lefts rights hash first second r w =
    let b = both_of (get_or lefts r None) (get_or rights r None) w.0 (sym (pair_at lefts rights r) ∙ w.1) in
    ((b.e, b.left, b.hash ∙ w.2, rw b.first w.3), (b.f, b.right, b.same ∙ w.2, rw b.second w.4))

pub both_crossed : (lefts rights : List (Option Entry)) (hash : ℕ) (first second : Range) (r : ℕ)
    → IsWanted lefts hash first r → IsWanted rights hash second r
    → IsCrossed (pairs_of lefts rights) hash first second r
both_crossed lefts rights hash first second r v w = (
  record { hash = v.0.hash; first = v.0.value; second = w.0.value },
  pair_at lefts rights r ∙ (λ i. pair_of (v.1 i) (w.1 i)) ∙ pair_made v.0 w.0 (v.2 ∙ sym w.2),
  v.2,
  v.3,
  w.3,
)

-- where both indexes have as many rows, they do after a row more, and after a row's death
pub pairs_push : (lefts rights : List (Option Entry)) (hash : ℕ) (first second : ℤ) → length lefts ≡ length rights
    → pairs_of (lefts ++ Some (record { hash = hash; value = first }) ∷ [])
    (rights ++ Some (record { hash = hash; value = second }) ∷ [])
    ≡ pairs_of lefts rights ++ Some (record { hash = hash; first = first; second = second }) ∷ []
pairs_push [] [] hash first second e =
    ap (λ p. p ∷ []) (pair_made (record { hash = hash; value = first }) (record { hash = hash; value = second }) refl)
pairs_push [] (y ∷ rights) hash first second e = absurd (omega (arith, e))
pairs_push (x ∷ lefts) [] hash first second e = absurd (omega (arith, e))
pairs_push (x ∷ lefts) (y ∷ rights) hash first second e =
    ap (λ ps. pair_of x y ∷ ps) (pairs_push lefts rights hash first second (omega (arith, e)))

pub pairs_kill : (lefts rights : List (Option Entry)) (r : ℕ) → pairs_of (set lefts r None) (set rights r None)
    ≡ set (pairs_of lefts rights) r None
pairs_kill [] rights r = refl
pairs_kill (x ∷ lefts) [] zero = refl
pairs_kill (x ∷ lefts) [] (suc r) = refl
pairs_kill (x ∷ lefts) (y ∷ rights) zero = refl
pairs_kill (x ∷ lefts) (y ∷ rights) (suc r) = ap (λ ps. pair_of x y ∷ ps) (pairs_kill lefts rights r)

pub pairs_many : (lefts rights : List (Option Entry)) → length lefts ≡ length rights → length (pairs_of lefts rights)
    ≡ length lefts
pairs_many [] rights e = refl
pairs_many (x ∷ lefts) [] e = absurd (omega (arith, e))
pairs_many (x ∷ lefts) (y ∷ rights) e = ap suc (pairs_many lefts rights (omega (arith, e)))

-- what holds below a place holds of the row that is found there
pub found_is : (P : ℕ → Type 0) (found : Option ℕ) (place : ℕ) → SomeIff found (1 ≤ place) (place - 1)
    → (0 < place → P (place - 1)) → IfSome found P
found_is P None place is there = tt
found_is P (Some row) place is there = subst P (sym is.1) (there (omega (arith, is.0)))
