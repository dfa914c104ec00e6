-- Overlaps that are listed part by part, by the places of their first rules.
use Rattle.std.specs.Prelude.{◌≡◌, ℕ, zero, suc, ◌+◌, ◌-◌, ◌<◌, ◌≤◌, ◌⊎◌, List, [], ◌∷◌, ◌++◌, length}
use Rattle.std.specs.List.{flat_map, range_with_len}
use Rattle.std.specs.declared.cmp.Ordering.TheVariants.{Less}
use Rattle.std.proofs.Common.{refl, inl, inr, arith}
use Rattle.std.proofs.lemmas.Bool.{cases_lt}
use Rattle.std.proofs.lemmas.Option.{slice_get_within}
use Rattle.chr_base.specs.declared.rule.Rule.{Rule}
use Rattle.chr_types.specs.OrderTypes.{In}
use Rattle.chr_types.proofs.Members.{in_first, in_second, in_either}
use Rattle.chr_overlaps.specs.declared.overlap.Overlap.{Overlap}
use Rattle.chr_overlaps.specs.OverlapLists.{IsOverlapOf, overlap_cmp, AreOverlaps, AreOverlapsBetween}
use Rattle.chr_overlaps.specs.working.Listing.{overlaps_of_rule}
use Rattle.chr_types.proofs.RisingLists.{rise_append}
use Rattle.chr_overlaps.proofs.Members.{less_at}
use Rattle.chr_overlaps.proofs.Theorem.{all_listed}

-- an overlap whose first rule comes earlier comes earlier
earlier : (o p : Overlap) → o.first < p.first → overlap_cmp o p ≡ Less
earlier o p l = less_at [] (o.second ∷ o.matching.items) (p.second ∷ p.matching.items) o.first p.first l

-- two parts, one behind the other
pub joined : (rules : List Rule) (a n m : ℕ) (os ps : List Overlap) → a ≤ n → n ≤ m → AreOverlapsBetween rules a n os
    → AreOverlapsBetween rules n m ps → AreOverlapsBetween rules a m (os ++ ps)
joined rules a n m os ps from before first second = record {
  each = λ o i. elim (in_either o os ps i) as (λ _. IsOverlapOf rules o × (a < o.first) × (o.first ≤ m)) [
    | inl j ↦ (let e = first.each o j in let x = e.1 in let y = e.2 in
        (e.0, omega (arith, x), omega (arith, y, before)))
    | inr j ↦ (let e = second.each o j in let x = e.1 in let y = e.2 in (e.0, omega (arith, x, from), omega (arith, y)))
  ];
  all = all;
  rise = rise_append (λ o p. overlap_cmp o p ≡ Less) os ps first.rise second.rise
      (λ o p i j. (let l = (first.each o i).2 in let g = (second.each p j).1 in earlier o p (omega (arith, l, g))));
}
  where
    all : (o : Overlap) → IsOverlapOf rules o → a < o.first → o.first ≤ m → In o (os ++ ps)
    all o h l g = elim (cases_lt n o.first) as (λ _. In o (os ++ ps)) [
      | inl e ↦ in_second o os ps (second.all o h e g)
      | inr e ↦ in_first o os ps (first.all o h l e)
    ]

-- the overlaps whose first rule is any of the rules are all overlaps
pub of_all : (rules : List Rule) (n : ℕ) (os : List Overlap) → length rules ≤ n → AreOverlapsBetween rules 0 n os
    → AreOverlaps rules os
of_all rules n os most are = record {
  each = λ o i. (are.each o i).0;
  all = λ o h. (let first = h.2.0 in let within = slice_get_within rules h.0 h.2.2.rule1 h.2.2.first in
      are.all o h (omega (arith, first)) (omega (arith, first, within, most)));
  rise = are.rise;
}

-- the overlaps from each place on have a list
pub part_there : (rules : List Rule) (a : ℕ) → (os : List Overlap) × AreOverlapsBetween rules a (length rules) os
part_there rules a = (
  flat_map (overlaps_of_rule rules) (range_with_len a (length rules - a)),
  all_listed rules rules a (length rules - a) (length rules) _ refl (within (length rules - a) refl)
      (λ i from before l. omega (arith, from, l)) refl,
)
  where
    within : (k : ℕ) → k ≡ length rules - a → a + k ≤ length rules ⊎ (k ≡ 0)
    within zero e = inr refl
    within (suc k) e = inl (omega (arith, e))
