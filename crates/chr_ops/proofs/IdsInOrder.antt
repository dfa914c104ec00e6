-- Operations in the order of their ids: each of them comes once.
use Rattle.std.specs.Prelude.{◌≡◌, ℕ, zero, suc, ◌+◌, ◌<◌, false, true, List, [], ◌∷◌, None, Some, Option, cond, length}
use Rattle.std.specs.Prelude.{take}
use Rattle.std.proofs.Common.{refl, sym, ap, ◌∙◌, arith, get_or}
use Rattle.std.specs.Option.{option_or, is_some}
use Rattle.std.specs.declared.cmp.Ordering.TheVariants.{Less}
use Rattle.std.specs.Ordering.{eq_by_cmp, is_le}
use Rattle.std.specs.Map.{keys_of}
use Rattle.std.specs.List.Sorted.{IsStrictlySortedBy}
use Rattle.std.specs.FinMap as map
use Rattle.std.specs.FinMap.{find}
use Rattle.std.proofs.lemmas.List.{get_or_default}
use Rattle.std.proofs.lemmas.Bool.{false≢true}
use Rattle.std.proofs.lemmas.Bool.Decides.{nat_tests}
use Rattle.std.proofs.lemmas.Map.Keys.{sorted_head, sorted_tail}
use Rattle.chr_base.specs.Stores.{Store}
use Rattle.chr_ops.specs.declared.id.OpId.{OpId}
use Rattle.chr_ops.specs.Ids.{id_cmp}
use Rattle.chr_ops.specs.Operations.{Operation, Operations}
use Rattle.chr_ops.specs.Joins.{union}
use Rattle.chr_ops.specs.working.Entries.{Rise}
use Rattle.chr_ops.proofs.Appended.{all_on, each_at}
use Rattle.chr_ops.proofs.Unions.{get-union, or_none}

rise_by_pairs : (os : List Operation) → ((k : ℕ) (d : Operation) → suc k < length os
    → id_cmp (get_or os k d).0 (get_or os (suc k) d).0 ≡ Less) → Rise os
unfolding IsStrictlySortedBy
rise_by_pairs [] h = tt
rise_by_pairs (o ∷ []) h = (tt, tt)
rise_by_pairs (o ∷ p ∷ os) h =
    let first : id_cmp o.0 p.0 ≡ Less = h 0 o (omega arith) in
    let rest : Rise (p ∷ os) = rise_by_pairs (p ∷ os) (λ k d l. h (suc k) d (omega (arith, l))) in
    ((first, all_on o.0 p.0 os first (sorted_head id_cmp p.0 (keys_of os) rest)), rest)

-- operations are in order if each two neighbours are
pub rise_by_neighbours : (os : List Operation) → ((k : ℕ) (d : Operation) → k + 1 < length os
    → id_cmp (get_or os k d).0 (get_or os (k + 1) d).0 ≡ Less) → Rise os
rise_by_neighbours os h = rise_by_pairs os (λ k d l.
    let next : suc k ≡ k + 1 = omega arith in
    ap (λ n. id_cmp (get_or os k d).0 (get_or os n d).0) next ∙ h k d (omega (arith, l)))

-- of two operations in order the later has the greater id
pub later_greater : (os : List Operation) (j k : ℕ) (d : Operation) → Rise os → j < k → k < length os
    → id_cmp (get_or os j d).0 (get_or os k d).0 ≡ Less
later_greater [] j k d rise l g = absurd (omega (arith, g))
later_greater (o ∷ os) j zero d rise l g = absurd (omega (arith, l))
later_greater (o ∷ os) zero (suc k) d rise l g =
    each_at (λ q. id_cmp o.0 q ≡ Less) os (sorted_head id_cmp o.0 (keys_of os) rise) k d (omega (arith, g))
later_greater (o ∷ os) (suc j) (suc k) d rise l g =
    later_greater os j k d (sorted_tail id_cmp o.0 (keys_of os) rise) (omega (arith, l)) (omega (arith, g))

-- operations two of which fall are not in order
pub none_falls : (os : List Operation) (j k : ℕ) (a b : Operation) → j < k → k < length os → a ≡ get_or os j a
    → b ≡ get_or os k b → is_le (id_cmp b.0 a.0) ≡ true → ¬ (Rise os)
none_falls os j k a b l g at after h rise =
    let apart : id_cmp (get_or os j a).0 (get_or os k a).0 ≡ Less = later_greater os j k a rise l g in
    let second : get_or os k a ≡ b = get_or_default os k a b g ∙ sym after in
    no_greater a.0 b.0 (ap (λ o. id_cmp o.0 b.0) at ∙ ap (λ o. id_cmp (get_or os j a).0 o.0) (sym second) ∙ apart) h
  where
    no_greater : (p q : OpId) → id_cmp p q ≡ Less → is_le (id_cmp q p) ≡ true → ⊥
    no_greater p q e f = grind (arith, nat_tests, e, f)

greater_apart : (a b : OpId) → id_cmp a b ≡ Less → eq_by_cmp id_cmp b a ≡ false
greater_apart a b h = grind (arith, nat_tests, h)

none_earlier : (os : List Operation) (i : ℕ) (d : Operation) → Rise os → i < length os
    → find id_cmp (get_or os i d).0 (take i os) ≡ None
none_earlier [] i d rise l = absurd (omega (arith, l))
none_earlier (o ∷ os) zero d rise l = refl
none_earlier (o ∷ os) (suc i) d rise l =
    let q = (get_or os i d).0 in
    let later : id_cmp o.0 q ≡ Less = later_greater (o ∷ os) 0 (suc i) d rise (omega arith) l in
    ap (λ b. cond b (Some o.1) (find id_cmp q (take i os))) (greater_apart o.0 q later)
    ∙ none_earlier os i d (sorted_tail id_cmp o.0 (keys_of os) rise) (omega (arith, l))

pub not_held : (x : Option Store) → is_some x ≡ false → x ≡ None
not_held None e = refl
not_held (Some s) e = absurd (false≢true (sym e))

-- in operations in order, what is held under the id of one was held before those that come before it
pub held_before : (m : Operations) (os : List Operation) (i : ℕ) (o : Operation) → Rise os → i < length os
    → o ≡ get_or os i o → map.get (union m (take i os)) o.0 ≡ map.get m o.0
held_before m os i o rise l is =
    get-union m (take i os) o.0
    ∙ ap (option_or (map.get m o.0)) (ap (λ p. find id_cmp p.0 (take i os)) is ∙ none_earlier os i o rise l)
    ∙ or_none (map.get m o.0)
