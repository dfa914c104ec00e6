-- Each set has a summary: the ids that it holds, merged one after the other as ranges of their own.
use Rattle.std.specs.Prelude.{◌≡◌, ◌+◌, ◌≤◌, ◌⊎◌, Bool, true, false, ◌&&◌, ◌||◌, ◌==◌, nat_le, List, [], ◌∷◌, ◌++◌}
use Rattle.std.specs.Prelude.{Some, Option, cond}
use Rattle.std.proofs.Common.{refl, sym, ap, ◌∙◌, subst, arith, inl, inr}
use Rattle.std.specs.List.{AllByRecursion}
use Rattle.std.specs.Option.{is_some}
use Rattle.std.specs.declared.cmp.Ordering.TheVariants.{Less}
use Rattle.std.specs.Ordering.{eq_by_cmp}
use Rattle.std.specs.Map.{keys_of}
use Rattle.std.specs.List.Sorted.{IsStrictlySortedBy}
use Rattle.std.proofs.lemmas.Map.Keys.{sorted_head, sorted_tail}
use Rattle.std.proofs.lemmas.Bool.Decides.{nat_tests}
use Rattle.std.proofs.Math.Bool.{or-false}
use Rattle.std.specs.FinMap as map
use Rattle.std.specs.FinMap.{find}
use Rattle.chr_ops.specs.declared.id.OpId.{OpId}
use Rattle.chr_ops.specs.declared.range.IdRange.{IdRange}
use Rattle.chr_ops.specs.Ids.{id_cmp}
use Rattle.chr_ops.specs.Operations.{Operation}
use Rattle.chr_ops.specs.Summaries.{in_range, covers, IsApart, SummariesExist}
use Rattle.chr_ops.specs.working.Merging.{StartsBy, AllStartBy, IsMerged}
use Rattle.chr_ops.proofs.EntryLists.{ids_rise}
use Rattle.chr_ops.proofs.Merged.{hull, merged_first, merged_touching, merged_behind}

-- the range of one id
abbrev alone : OpId → IdRange
alone k = record { origin = k.origin; lo = k.number; hi = k.number }

-- ---- one range more

-- a list has a last range, or none
abbrev HasLast : List IdRange → Type 0
HasLast rs = (front : List IdRange) × (last : IdRange) × (rs ≡ front ++ last ∷ [])

last_of : (rs : List IdRange) → (rs ≡ []) ⊎ HasLast rs
last_of [] = inl refl
last_of (r ∷ rs) = inr (by (last_of rs))
  where
    by : (rs ≡ []) ⊎ HasLast rs → HasLast (r ∷ rs)
    by (inl none) = ([], r, ap (λ x. r ∷ x) none)
    by (inr some) = (r ∷ some.0, some.1, ap (λ x. r ∷ x) some.2)

-- ranges and the next one can be merged
abbrev HasMerged : List IdRange → IdRange → Type 0
HasMerged old next = (new : List IdRange) × IsMerged old next new

-- a range begins within the last one, or right behind it
abbrev Touches : IdRange → IdRange → Type 0
Touches last next = (last.origin ≡ next.origin) × (next.lo ≤ last.hi + 1)

touches_or : (last next : IdRange) → Touches last next ⊎ (¬ (Touches last next))
touches_or last next = by (last.origin == next.origin && nat_le next.lo (last.hi + 1)) refl
  where
    by : (b : Bool) → (last.origin == next.origin && nat_le next.lo (last.hi + 1)) ≡ b → Touches last next
        ⊎ (¬ (Touches last next))
    by true e = inl (grind (arith, nat_tests, e), grind (arith, nat_tests, e))
    by false e = inr (λ h. (let o = h.0 in let l = h.1 in grind (arith, nat_tests, e, o, l)))

merged_with : (front : List IdRange) (last next : IdRange) → IsApart (front ++ last ∷ [])
    → AllStartBy (front ++ last ∷ []) next → next.lo ≤ next.hi → HasMerged (front ++ last ∷ []) next
merged_with front last next apart starts range =
    elim (touches_or last next) as (λ _. HasMerged (front ++ last ∷ []) next) [
      | inl t ↦ (front ++ hull last next ∷ [], merged_touching front last next apart starts range t.0 t.1)
      | inr n ↦ ((front ++ last ∷ []) ++ next ∷ [], merged_behind front last next apart starts range n)
    ]

merged_there : (old : List IdRange) (next : IdRange) → IsApart old → AllStartBy old next → next.lo ≤ next.hi
    → HasMerged old next
merged_there old next apart starts range =
    elim (last_of old) as (λ _. HasMerged old next) [
      | inl none ↦ subst (λ rs. HasMerged rs next) (sym none) (next ∷ [], merged_first next range)
      | inr some ↦
          (let still = subst (λ rs. AllStartBy rs next) some.2 starts in
          subst (λ rs. HasMerged rs next) (sym some.2)
          (merged_with some.0 some.1 next (subst IsApart some.2 apart) still range))
    ]

-- ---- ids in order

in_alone : (k q : OpId) → in_range (alone k) q ≡ eq_by_cmp id_cmp q k
in_alone k q = grind (arith, nat_tests)

-- an id begins no later than a greater one
starts_by : (k l : OpId) → id_cmp k l ≡ Less → StartsBy (alone k) (alone l)
starts_by k l h = (grind (arith, nat_tests, h), λ same. grind (arith, nat_tests, h, same))

-- the ranges begin no later than each of these ids
abbrev AllStartByEach : List IdRange → List Operation → Type 0
AllStartByEach rs es = AllByRecursion (λ e. AllStartBy rs (alone e.0)) es

still_start : (old new : List IdRange) (k : OpId) (es : List Operation) → IsMerged old (alone k) new
    → AllByRecursion (λ q. id_cmp k q ≡ Less) (keys_of es) → AllStartByEach old es → AllStartByEach new es
still_start old new k [] m below starts = tt
still_start old new k (e ∷ es) m below starts = (
  m.in_order (alone e.0) (starts_by k e.0 below.0) starts.0,
  still_start old new k es m below.1 starts.1,
)

found_more : (past here : Bool) (e : Operation) (x : Option _) → ((past || here) || is_some x)
    ≡ (past || is_some (cond here (Some e.1) x))
found_more true here e x = refl
found_more false true e x = refl
found_more false false e x = refl

-- there are ranges that are apart, and cover what these do and the ids of entries in order
abbrev HasRanges : List Operation → List IdRange → Type 0
HasRanges es old = (new : List IdRange) × IsApart new × ((q : OpId) → covers new q
    ≡ (covers old q || is_some (find id_cmp q es)))

ranges_there : (es : List Operation) (old : List IdRange) → IsStrictlySortedBy id_cmp (keys_of es) → IsApart old
    → AllStartByEach old es → HasRanges es old
ranges_there [] old rise apart starts = (old, apart, λ q. sym (or-false (covers old q)))
ranges_there (e ∷ es) old rise apart starts =
    let m = merged_there old (alone e.0) apart starts.0 (omega arith) in
    let still = still_start old m.0 e.0 es m.1 (sorted_head id_cmp e.0 (keys_of es) rise) starts.1 in
    let more = ranges_there es m.0 (sorted_tail id_cmp e.0 (keys_of es) rise) m.1.apart still in (
      more.0,
      more.1,
      λ q. more.2 q ∙ ap (λ b. b || is_some (find id_cmp q es))
          (m.1.covering q ∙ ap (λ b. covers old q || b) (in_alone e.0 q))
          ∙ found_more (covers old q) (eq_by_cmp id_cmp q e.0) e (find id_cmp q es),
    )

none_start : (es : List Operation) → AllStartByEach [] es
none_start [] = tt
none_start (e ∷ es) = (tt, none_start es)

pub summaries_there : SummariesExist
summaries_there m =
    let found = ranges_there (map.entries m) [] (ids_rise m) tt (none_start (map.entries m)) in
    (found.0, found.1, λ q. found.2 q ∙ ap is_some (sym (map.get-entries m q)))
