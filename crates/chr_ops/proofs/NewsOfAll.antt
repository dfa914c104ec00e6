-- News of the sets of a list, where one of them gains operations or holds all that another does.
use Rattle.std.specs.Prelude.{◌≡◌, ◌≢◌, ℕ, zero, suc, ◌<◌, ◌⊎◌, Bool, true, false, ◌||◌, List, [], ◌∷◌, length, Option}
use Rattle.std.specs.Prelude.{Some, None, cond, slice_get, slice_set}
use Rattle.std.proofs.Common.{refl, sym, ap, ◌∙◌, subst, arith, inl, inr}
use mathlib.Core.Bool.{true≢false}
use Rattle.std.specs.Option.{option_or, is_some}
use Rattle.std.specs.Ordering.{eq_by_cmp}
use Rattle.std.specs.FinMap as map
use Rattle.std.specs.FinMap.{find}
use Rattle.std.proofs.Math.Bool.{or-true}
use Rattle.std.proofs.lemmas.Bool.Decides.{eqb_tells}
use Rattle.std.proofs.lemmas.Option.{same_Some, slice_get_within}
use Rattle.chr_base.specs.Stores.{Store}
use Rattle.chr_ops.specs.declared.id.OpId.{OpId}
use Rattle.chr_ops.specs.declared.news.News.{News}
use Rattle.chr_ops.specs.Ids.{id_cmp}
use Rattle.chr_ops.specs.Operations.{Operation, Operations}
use Rattle.chr_ops.specs.Joins.{union}
use Rattle.chr_ops.specs.News.{is_one_of, ids_of, GainsOnly, HoldsAll, IsTrueOf, IsTrueOfAll}
use Rattle.chr_ops.proofs.Unions.{get-union}

found_one : (q : OpId) (os : List Operation) → is_some (find id_cmp q os) ≡ is_one_of (ids_of os) q
found_one q [] = refl
found_one q (o ∷ os) =
    elim (eq_by_cmp id_cmp q o.0) as (λ b. is_some (cond b (Some o.1) (find id_cmp q os))
    ≡ (b || is_one_of (ids_of os) q)) [
      | true ↦ refl
      | false ↦ found_one q os
    ]

either_there : (x y : Option Store) → is_some (option_or x y) ≡ (is_some x || is_some y)
either_there None y = refl
either_there (Some s) y = refl

union_there : (m : Operations) (os : List Operation) (q : OpId) → map.contains_key (union m os) q
    ≡ (map.contains_key m q || is_one_of (ids_of os) q)
union_there m os q =
    ap is_some (get-union m os q) ∙ either_there (map.get m q) (find id_cmp q os) ∙ ap (λ b. map.contains_key m q || b)
    (found_one q os)

-- a union holds no ids but those of the set and of the list
pub union_gains : (m : Operations) (os : List Operation) → GainsOnly m (union m os) (ids_of os)
union_gains m os q h = sym (union_there m os q) ∙ h

-- a union holds all of the set
pub union_holds : (m : Operations) (os : List Operation) → HoldsAll (union m os) m
union_holds m os q h = union_there m os q ∙ ap (λ b. b || is_one_of (ids_of os) q) h

-- the union of two sets holds all of the second
pub union_holds_both : (m n : Operations) → HoldsAll (union m (map.entries n)) n
union_holds_both m n q h =
    ap is_some (get-union m (map.entries n) q) ∙ either_there (map.get m q) (find id_cmp q (map.entries n))
    ∙ ap (λ b. map.contains_key m q || b) (ap is_some (sym (map.get-entries n q)) ∙ h) ∙ or-true (map.contains_key m q)

pub same_gains : (m : Operations) (ids : List OpId) → GainsOnly m m ids
same_gains m ids q h = ap (λ b. b || is_one_of ids q) h

pub set_here : {X : Type 0} (ms : List X) (i : ℕ) (k : X) → i < length ms → slice_get (slice_set ms i k) i ≡ Some k
set_here [] i k l = absurd (omega (arith, l))
set_here (m ∷ ms) zero k l = refl
set_here (m ∷ ms) (suc i) k l = set_here ms i k (omega (arith, l))

pub set_elsewhere : {X : Type 0} (ms : List X) (i j : ℕ) (k : X) → j ≢ i → slice_get (slice_set ms i k) j
    ≡ slice_get ms j
set_elsewhere [] i j k n = refl
set_elsewhere (m ∷ ms) zero zero k n = absurd (n refl)
set_elsewhere (m ∷ ms) zero (suc j) k n = refl
set_elsewhere (m ∷ ms) (suc i) zero k n = refl
set_elsewhere (m ∷ ms) (suc i) (suc j) k n = set_elsewhere ms i j k (λ e. n (omega (arith, e)))

-- what is at a place of a list in which one element is another
record Was {X : Type 0} (ms : List X) (i : ℕ) (m k : X) (j : ℕ) (now : X) : Type 0 where
  pub before : X
  pub there : slice_get ms j ≡ Some before
  pub how : ((j ≡ i) × (before ≡ m) × (now ≡ k)) ⊎ ((j ≢ i) × (now ≡ before))

was : {X : Type 0} (ms : List X) (i : ℕ) (m k : X) (j : ℕ) (now : X) → slice_get ms i ≡ Some m
    → slice_get (slice_set ms i k) j ≡ Some now → Was ms i m k j now
was ms i m k j now there at = elim (eqb_tells j i) as (λ _. Was ms i m k j now) [
  | inl e ↦ record {
    before = m;
    there = ap (slice_get ms) e.1 ∙ there;
    how = inl (
      e.1,
      refl,
      same_Some now k (sym at ∙ ap (slice_get (slice_set ms i k)) e.1
          ∙ set_here ms i k (slice_get_within ms i m there)),
    );
  }
  | inr n ↦ record { before = now; there = sym (set_elsewhere ms i j k n.1) ∙ at; how = inr (n.1, refl) }
]

lacks_too : (n k : Operations) (q : OpId) → HoldsAll k n → map.contains_key k q ≡ false → map.contains_key n q ≡ false
lacks_too n k q holds lacks = by (map.contains_key n q) refl
  where
    by : (b : Bool) → map.contains_key n q ≡ b → b ≡ false
    by true e = absurd (true≢false (sym (holds q e) ∙ lacks))
    by false e = refl

-- a taker that holds more lacks no more
taker_gains : (w : News) (a b : ℕ) (m n k : Operations) → HoldsAll k n → IsTrueOf w a b m n → IsTrueOf w a b m k
taker_gains w a b m n k holds right g found mark at =
    let old = right g found mark at in
    (old.0, λ q there lacks. old.1 q there (lacks_too n k q holds lacks))

-- news stay true of all where one of them gains operations
pub gained_all : (v w : News) (giver : ℕ) (ids : List OpId) (ms : List Operations) (m k : Operations)
    → ((b : ℕ) (m n k : Operations) → IsTrueOf v giver b m n → GainsOnly m k ids → IsTrueOf w giver b k n)
    → ((a b : ℕ) (m n : Operations) → a ≢ giver → IsTrueOf v a b m n → IsTrueOf w a b m n)
    → slice_get ms giver ≡ Some m → GainsOnly m k ids → HoldsAll k m → IsTrueOfAll v ms
    → IsTrueOfAll w (slice_set ms giver k)
gained_all v w giver ids ms m k gives others there grows holds right a b s t at_a at_b =
    let x = was ms giver m k a s there at_a in
    let y = was ms giver m k b t there at_b in
    by_taker y.before y.how (by_giver x.before y.before x.how (right a b x.before y.before x.there y.there))
  where
    by_giver : (x n : Operations) → ((a ≡ giver) × (x ≡ m) × (s ≡ k)) ⊎ ((a ≢ giver) × (s ≡ x)) → IsTrueOf v a b x n
        → IsTrueOf w a b s n
    by_giver x n (inl e) h =
        subst (λ s. IsTrueOf w a b s n) (sym e.2)
        (subst (λ a. IsTrueOf w a b k n) (sym e.0)
        (gives b m n k (subst (λ x. IsTrueOf v giver b x n) e.1 (subst (λ a. IsTrueOf v a b x n) e.0 h)) grows))
    by_giver x n (inr e) h = subst (λ s. IsTrueOf w a b s n) (sym e.1) (others a b x n e.0 h)

    by_taker : (y : Operations) → ((b ≡ giver) × (y ≡ m) × (t ≡ k)) ⊎ ((b ≢ giver) × (t ≡ y)) → IsTrueOf w a b s y
        → IsTrueOf w a b s t
    by_taker y (inl e) h =
        subst (IsTrueOf w a b s) (sym e.2) (taker_gains w a b s m k holds (subst (IsTrueOf w a b s) e.1 h))
    by_taker y (inr e) h = subst (IsTrueOf w a b s) (sym e.1) h

-- news stay true of all where it is noted that a taker holds all that a giver does
pub met_all : (v w : News) (giver taker : ℕ) (ms : List Operations) (m n : Operations)
    → ((m n : Operations) → HoldsAll n m → IsTrueOf v giver taker m n → IsTrueOf w giver taker m n)
    → ((b : ℕ) (m n : Operations) → b ≢ taker → IsTrueOf v giver b m n → IsTrueOf w giver b m n)
    → ((a b : ℕ) (m n : Operations) → a ≢ giver → IsTrueOf v a b m n → IsTrueOf w a b m n)
    → slice_get ms giver ≡ Some m → slice_get ms taker ≡ Some n → HoldsAll n m → IsTrueOfAll v ms → IsTrueOfAll w ms
met_all v w giver taker ms m n meets takers others there_m there_n holds right a b s t at_a at_b =
    elim (eqb_tells a giver) as (λ _. IsTrueOf w a b s t) [
      | inl e ↦
          subst (λ a. IsTrueOf w a b s t) (sym e.1)
          (of_giver (sym at_a ∙ ap (slice_get ms) e.1 ∙ there_m)
          (subst (λ a. IsTrueOf v a b s t) e.1 (right a b s t at_a at_b)))
      | inr far ↦ others a b s t far.1 (right a b s t at_a at_b)
    ]
  where
    of_giver : ◌≡◌ {A = Option Operations} (Some s) (Some m) → IsTrueOf v giver b s t → IsTrueOf w giver b s t
    of_giver same h = elim (eqb_tells b taker) as (λ _. IsTrueOf w giver b s t) [
      | inl e ↦
          (let is_n = same_Some t n (sym at_b ∙ ap (slice_get ms) e.1 ∙ there_n) in
          let holds_s : HoldsAll t s =
          subst (λ x. HoldsAll x s) (sym is_n) (subst (HoldsAll n) (sym (same_Some s m same)) holds) in
          subst (λ b. IsTrueOf w giver b s t) (sym e.1) (meets s t holds_s (subst (λ b. IsTrueOf v giver b s t) e.1 h)))
      | inr far ↦ takers b s t far.1 h
    ]
