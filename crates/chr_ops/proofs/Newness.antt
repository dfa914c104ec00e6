-- What sets lack of each other, by the ids that were gained.
use Rattle.std.specs.Prelude.{◌≡◌, ℕ, ◌+◌, Bool, true, false, not, ◌&&◌, ◌||◌, List, Some, Option, cond, drop, length}
use Rattle.std.proofs.Common.{refl, sym, ap, ◌∙◌, arith, inl, inr}
use Rattle.std.proofs.lemmas.Option.{none-some, same_Some}
use Rattle.std.specs.Map.{lookup}
use Rattle.std.specs.BTreeMap.{is_at}
use Rattle.std.specs.Ordering.{nat_cmp, is_eq, eq_by_cmp}
use Rattle.std.specs.Cmp.{tied_itself, nat_cmp_total}
use Rattle.std.specs.FinMap as map
use Rattle.std.proofs.Math.Bool.{or-true}
use Rattle.std.proofs.lemmas.List.{drop-append-le, length-append}
use Rattle.std.proofs.lemmas.List.Folds.{list_any-append}
use Rattle.chr_ops.specs.declared.id.OpId.{OpId}
use Rattle.chr_ops.specs.declared.news.Gains.{Gains}
use Rattle.chr_ops.specs.declared.range.IdRange.{IdRange}
use Rattle.chr_ops.specs.Ids.{id_cmp}
use Rattle.chr_ops.specs.Operations.{Operations}
use Rattle.chr_ops.specs.Summaries.{covers, lacking, CoversJust}
use Rattle.chr_ops.specs.News.{is_one_of, lacked_among, LacksOnly, GainsOnly, AreTrueOf}
use Rattle.chr_ops.specs.working.Gaining.{GainsOrForgets}
use Rattle.chr_ops.specs.working.Walks.{covered}
use Rattle.chr_ops.proofs.CoveredLists.{filter_same, each_id}
use Rattle.chr_ops.proofs.EntryLists.{each_found}

wanted : (one held : Bool) → (held ≡ false → one ≡ true) → (one && not held) ≡ not held
wanted one true h = by one
  where
    by : (b : Bool) → (b && false) ≡ false
    by true = refl
    by false = refl
wanted one false h = ap (λ b. b && true) (h refl)

-- where a set lacks only some ids, what it lacks is what it lacks among them
pub among_lacking : (m n : Operations) (ids : List OpId) (summary : List IdRange) → LacksOnly m n ids
    → CoversJust summary n → lacked_among m n ids ≡ lacking m summary
among_lacking m n ids summary lacks just =
    filter_same (λ o. is_one_of ids o.0 && not (map.contains_key n o.0)) (λ o. not (covers summary o.0)) (map.entries m)
    (each_id (λ id. (is_one_of ids id && not (map.contains_key n id)) ≡ not (covers summary id)) m (map.entries m)
    (λ id there. wanted (is_one_of ids id) (map.contains_key n id) (lacks id there) ∙ ap not (sym (just id)))
    (each_found m))

-- what ranges of just some wanted ids cover
pub covered_among : (m n : Operations) (ids : List OpId) (ranges : List IdRange)
    → ((id : OpId) → covers ranges id ≡ (is_one_of ids id && not (map.contains_key n id)))
    → covered ranges (map.entries m) ≡ lacked_among m n ids
covered_among m n ids ranges split =
    filter_same (λ o. covers ranges o.0) (λ o. is_one_of ids o.0 && not (map.contains_key n o.0)) (map.entries m)
    (each_id (λ id. covers ranges id ≡ (is_one_of ids id && not (map.contains_key n id))) m (map.entries m)
    (λ id there. split id) (each_found m))

either_one : (x y z : Bool) → (x ≡ true → y ≡ true) → (x || z) ≡ true → (y || z) ≡ true
either_one true y z h e = ap (λ b. b || z) (h refl)
either_one false y z h e = ap (λ b. y || b) e ∙ or-true y

-- what is kept of a giver stays true where it gains operations
pub gained_true : (g h : Gains) (ids : List OpId) (taker : ℕ) (m n k : Operations) → GainsOrForgets g ids h
    → AreTrueOf g taker m n → GainsOnly m k ids → AreTrueOf h taker k n
gained_true g h ids taker m n k (inl none) right grows mark at =
    absurd (none-some mark (sym (ap (λ es. lookup (is_at (nat_cmp taker)) es) none) ∙ at))
gained_true g h ids taker m n k (inr same) right grows mark at =
    let old = right mark (sym (ap (λ es. lookup (is_at (nat_cmp taker)) es) same.0) ∙ at) in
    let within = old.0 in
    let longer : length h.ids.items ≡ length g.ids.items + length ids =
    ap length same.1 ∙ length-append g.ids.items ids in (
      omega (arith, within, longer),
      λ q there lacks.
          ap (λ xs. is_one_of (drop mark xs) q) same.1
          ∙ ap (λ xs. is_one_of xs q) (drop-append-le mark g.ids.items ids within)
          ∙ list_any-append (eq_by_cmp id_cmp q) (drop mark g.ids.items) ids
          ∙ either_one (map.contains_key m q) (is_one_of (drop mark g.ids.items) q) (is_one_of ids q)
          (λ had. old.1 q had lacks) (grows q there),
    )

-- what stands under a number after it was written there
pub written : {X : Type 0} (k : ℕ) (v w : X) (old new : Option X) → new ≡ cond (is_at (nat_cmp k) k) (Some v) old
    → new ≡ Some w → v ≡ w
written k v w old new writes found =
    same_Some v w (sym (writes ∙ ap (λ r. cond (is_eq r) (Some v) old) (tied_itself nat_cmp_total k)) ∙ found)
