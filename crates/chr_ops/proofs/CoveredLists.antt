-- Operations by the ranges that cover their ids.
use Rattle.std.specs.Prelude.{◌≡◌, ℕ, ◌+◌, ◌<◌, ◌≤◌, Bool, true, false, not, ◌&&◌, ◌||◌, List, [], ◌∷◌, ◌++◌, Some}
use Rattle.std.specs.Prelude.{cond, length}
use Rattle.std.proofs.Common.{refl, sym, ap, ◌∙◌, subst, arith, append_assoc, append-nil, ⊎_elim, drop, get_or}
use Rattle.std.proofs.lemmas.List.{drop_more, drop_all}
use mathlib.Core.Bool.{true≢false}
use Rattle.std.specs.Option.{is_some}
use Rattle.std.specs.List.{AllByRecursion, filter}
use Rattle.std.specs.List.Sorted.{IsStrictlySortedBy}
use Rattle.std.specs.Map.{keys_of}
use Rattle.std.specs.FinMap as map
use Rattle.std.proofs.lemmas.Bool.{cases_eq}
use Rattle.std.proofs.lemmas.Bool.Decides.{nat_tests}
use Rattle.std.proofs.lemmas.Map.Keys.{sorted_head, sorted_tail}
use Rattle.std.specs.declared.cmp.Ordering.TheVariants as order
use Rattle.std.specs.declared.ops.Bound.TheVariants.{Included}
use Rattle.std.specs.BTreeMap.Range.{range_contains}
use Rattle.chr_ops.specs.declared.id.OpId.{OpId}
use Rattle.chr_ops.specs.declared.range.IdRange.{IdRange}
use Rattle.chr_ops.specs.Ids.{id_cmp}
use Rattle.chr_ops.specs.Operations.{Operation, Operations}
use Rattle.chr_ops.specs.Summaries.{in_range, covers, lacking, CoversJust, IsBefore, IsApart}
use Rattle.chr_ops.specs.working.Walks.{first_id, last_id, within, covered}
use Rattle.chr_ops.proofs.EntryLists.{each_found}
use Rattle.chr_ops.proofs.OneSummary.{Behind, behind, not_later}
use Rattle.chr_ops.proofs.WalkSteps.{blank}

-- where none of the later ids is in a range that an id is behind, the two parts of a list stand in order
parts_follow : (p q : OpId → Bool) (os : List Operation)
    → ((a b : OpId) → id_cmp a b ≡ order.Less → q a ≡ true → p b ≡ false) → ((a : OpId) → p a ≡ true → q a ≡ false)
    → IsStrictlySortedBy id_cmp (keys_of os)
    → filter (λ o. p o.0 || q o.0) os ≡ filter (λ o. p o.0) os ++ filter (λ o. q o.0) os
parts_follow p q [] later apart sorted = refl
parts_follow p q (o ∷ os) later apart sorted = by (parts_follow p q os later apart
    (sorted_tail id_cmp o.0 (keys_of os) sorted)) (p o.0) (q o.0) refl refl
  where
    none : (xs : List Operation) → AllByRecursion (λ k. id_cmp o.0 k ≡ order.Less) (keys_of xs) → q o.0 ≡ true
        → filter (λ x. p x.0) xs ≡ []
    none [] h e = refl
    none (x ∷ xs) h e = ap (λ b. cond b (x ∷ filter (λ y. p y.0) xs) (filter (λ y. p y.0) xs)) (later o.0 x.0 h.0 e)
        ∙ none xs h.1 e

    by : filter (λ x. p x.0 || q x.0) os ≡ filter (λ x. p x.0) os ++ filter (λ x. q x.0) os → (b c : Bool) → p o.0 ≡ b
        → q o.0 ≡ c
        → cond (b || c) (o ∷ filter (λ x. p x.0 || q x.0) os) (filter (λ x. p x.0 || q x.0) os)
        ≡ cond b (o ∷ filter (λ x. p x.0) os) (filter (λ x. p x.0) os) ++ cond c (o ∷ filter (λ x. q x.0) os)
        (filter (λ x. q x.0) os)
    by rest true true e g = absurd (true≢false (sym g ∙ apart o.0 e))
    by rest true false e g = ap (λ xs. o ∷ xs) rest
    by rest false true e g =
        let first = none os (sorted_head id_cmp o.0 (keys_of os) sorted) g in
        ap (λ xs. o ∷ xs) (rest ∙ ap (λ xs. xs ++ filter (λ x. q x.0) os) first)
        ∙ ap (λ xs. xs ++ o ∷ filter (λ x. q x.0) os) (sym first)
    by rest false false e g = rest

behind_has_not : (r : IdRange) (a b : OpId) → Behind r a → id_cmp a b ≡ order.Less → in_range r b ≡ false
behind_has_not r a b far less =
    let origin = far.origin in
    ⊎_elim (λ e. (let number = far.number e in grind (arith, nat_tests, e, number, less)))
    (λ ne. grind (arith, nat_tests, ne, origin, less)) (cases_eq r.origin a.origin)

-- the operations of ranges are those of the first, and then those of the others
pub covered_first : (r : IdRange) (rs : List IdRange) (os : List Operation) → AllByRecursion (IsBefore r) rs
    → IsStrictlySortedBy id_cmp (keys_of os) → covered (r ∷ rs) os ≡ within r os ++ covered rs os
covered_first r rs os before sorted =
    parts_follow (in_range r) (covers rs) os (λ a b less has. behind_has_not r a b (behind r rs a before has) less)
    (λ a has. not_later r rs a before has) sorted

pub covered_none : (os : List Operation) → covered [] os ≡ []
covered_none [] = refl
covered_none (o ∷ os) = covered_none os

pub filter_same : (p q : Operation → Bool) (os : List Operation) → AllByRecursion (λ o. p o ≡ q o) os → filter p os
    ≡ filter q os
filter_same p q [] h = refl
filter_same p q (o ∷ os) h = ap (λ b. cond b (o ∷ filter p os) (filter p os)) h.0 ∙ ap (λ ys. cond (q o) (o ∷ ys) ys)
    (filter_same p q os h.1)

-- what holds of the ids of a set holds of the ids of its entries
pub each_id : (P : OpId → Type 0) (m : Operations) (os : List Operation)
    → ((id : OpId) → map.contains_key m id ≡ true → P id) → AllByRecursion (λ e. map.get m e.0 ≡ Some e.1) os
    → AllByRecursion (λ o. P o.0) os
each_id P m [] f h = tt
each_id P m (o ∷ os) f h = (f o.0 (ap is_some h.0), each_id P m os f h.1)

-- what ranges have of a set's ids and others leave out is what is lacking to the others
pub covered_lacking : (m : Operations) (ranges others parts : List IdRange) → CoversJust ranges m
    → ((id : OpId) → covers parts id ≡ (covers ranges id && not (covers others id))) → covered parts (map.entries m)
    ≡ lacking m others
covered_lacking m ranges others parts just split =
    filter_same (λ o. covers parts o.0) (λ o. not (covers others o.0)) (map.entries m)
    (each_id (λ id. covers parts id ≡ not (covers others id)) m (map.entries m)
    (λ id there. split id ∙ ap (λ b. b && not (covers others id)) (just id ∙ there)) (each_found m))

-- what holds of each of a list holds of each that a test keeps
pub kept_all : (P : Operation → Type 0) (p : Operation → Bool) (os : List Operation) → AllByRecursion P os
    → AllByRecursion P (filter p os)
kept_all P p [] h = tt
kept_all P p (o ∷ os) h = elim (p o) as (λ b. AllByRecursion P (cond b (o ∷ filter p os) (filter p os)))
    [ true ↦ (h.0, kept_all P p os h.1) | false ↦ kept_all P p os h.1 ]

contained : (r : IdRange) (id : OpId) → range_contains id_cmp (Included (first_id r)) (Included (last_id r)) id
    ≡ in_range r id
contained r id = grind (arith, nat_tests)

-- the entries between two ids
abbrev between : OpId → OpId → List Operation → List Operation
between first last os = filter (λ o. range_contains id_cmp (Included first) (Included last) o.0) os

between_ends : (r : IdRange) (os : List Operation) → between (first_id r) (last_id r) os ≡ within r os
between_ends r [] = refl
between_ends r (o ∷ os) =
    ap (λ b. cond b (o ∷ between (first_id r) (last_id r) os) (between (first_id r) (last_id r) os)) (contained r o.0)
    ∙ ap (λ ys. cond (in_range r o.0) (o ∷ ys) ys) (between_ends r os)

-- what stands between the first id of a range and its last
pub stands_within : (r : IdRange) (first last : OpId) → first ≡ first_id r → last ≡ last_id r → (os : List Operation)
    → filter (λ o. range_contains id_cmp (Included first) (Included last) o.0) os ≡ within r os
stands_within r first last begins ends os = ap (λ a. between a last os) begins
    ∙ ap (λ b. between (first_id r) b os) ends ∙ between_ends r os

-- one range of a list that is apart, and those behind it
pub one_apart : (ranges : List IdRange) (i : ℕ) → i < length ranges → IsApart (drop i ranges)
    → IsApart (get_or ranges i blank ∷ drop (i + 1) ranges)
one_apart ranges i there apart = subst IsApart (drop_more ranges i blank there) apart

-- the operations so far and those of the ranges to come are all of them, after one range more
pub copied_more : (os all es : List Operation) (ranges : List IdRange) (i : ℕ) → i < length ranges
    → IsApart (drop i ranges) → IsStrictlySortedBy id_cmp (keys_of es) → os ++ covered (drop i ranges) es ≡ all
    → (os ++ within (get_or ranges i blank) es) ++ covered (drop (i + 1) ranges) es ≡ all
copied_more os all es ranges i there apart sorted found =
    let r = get_or ranges i blank in
    let rs = drop (i + 1) ranges in
    let parted = one_apart ranges i there apart in
    append_assoc os (within r es) (covered rs es) ∙ ap (λ xs. os ++ xs) (sym (covered_first r rs es parted.1 sorted))
    ∙ ap (λ xs. os ++ covered xs es) (sym (drop_more ranges i blank there)) ∙ found

-- after the last range the operations so far are all of them
pub copied_all : (os all es : List Operation) (ranges : List IdRange) (i : ℕ) → length ranges ≤ i
    → os ++ covered (drop i ranges) es ≡ all → os ≡ all
copied_all os all es ranges i over found =
    sym (append-nil os) ∙ ap (λ xs. os ++ xs) (sym (covered_none es))
    ∙ ap (λ xs. os ++ covered xs es) (sym (drop_all i ranges over)) ∙ found
