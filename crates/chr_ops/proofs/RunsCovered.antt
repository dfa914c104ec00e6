-- Runs that are covered one after the other.
use Rattle.std.specs.Prelude.{◌≡◌, ℕ, zero, suc, ◌+◌, ◌^◌, ◌<◌, ◌≤◌, Bool, true, false, ◌||◌, List, [], ◌∷◌, Some}
use Rattle.std.specs.Prelude.{length}
use Rattle.std.proofs.Common.{refl, sym, ap, ◌∙◌, arith, subst, get_or, take}
use mathlib.Core.Bool.{true≢false}
use Rattle.std.specs.Ordering.{eq_by_cmp}
use Rattle.std.specs.List.{All, list_any}
use Rattle.std.proofs.Math.ListN.{get_or-map}
use Rattle.std.proofs.lemmas.List.{length-map, take_all}
use Rattle.std.proofs.Math.Bool.{or-true}
use Rattle.std.specs.FinMap as map
use Rattle.chr_ops.specs.declared.id.OpId.{OpId}
use Rattle.chr_ops.specs.declared.range.IdRange.{IdRange}
use Rattle.chr_ops.specs.Ids.{id_cmp}
use Rattle.chr_ops.specs.News.{is_one_of}
use Rattle.chr_ops.specs.Summaries.{in_range, covers}
use Rattle.chr_ops.specs.working.Walks.{first_id}
use Rattle.chr_ops.specs.working.Joining.{IsWithout}
use Rattle.chr_ops.specs.working.Covering.{Ends, end_range, end_ranges, first_ids, is_beside}
use Rattle.chr_ops.specs.working.Covering.{AreAsLongAsPossible, AreDisjoint, AreJoined, GainsWithin, IsLaid, IsSameBut}
use Rattle.chr_ops.proofs.IdOrder.{same_id}
use Rattle.chr_ops.proofs.RangeJoins.{eq_self}
use Rattle.chr_ops.proofs.RangesLaid.{fresh_begin, joined_covers, joined_longest, joined_more}
use Rattle.chr_ops.proofs.RangesLaid.{laid_disjoint, laid_more, lifted}
use Rattle.chr_ops.proofs.Unions.{without_removed}
use Rattle.chr_ops.proofs.RangeLookups.{has_covers, in_origin, in_low, in_high, in_from, same_bool}

-- along a run nothing is gained yet; after it, two gains along a run are one
pub gains_none : (m : Ends) (run : IdRange) → AreAsLongAsPossible m → GainsWithin m run m
gains_none m run d = record { longest = d; stays = λ q h. h; within = λ q h. ap (λ b. b || in_range run q) h }

pub gains_twice : (m n o : Ends) (run : IdRange) → GainsWithin m run n → GainsWithin n run o → GainsWithin m run o
gains_twice m n o run h g = record {
  longest = g.longest;
  stays = λ q f. g.stays q (h.stays q f);
  within = λ q f. by q (covers (end_ranges n) q) refl (g.within q f);
}
  where
    by : (q : OpId) (b : Bool) → covers (end_ranges n) q ≡ b → (b || in_range run q) ≡ true
        → (covers (end_ranges m) q || in_range run q) ≡ true
    by q true e f = h.within q e
    by q false e f = ap (λ b. covers (end_ranges m) q || b) f ∙ or-true (covers (end_ranges m) q)

-- where a range reaches from the beginning of a run to its end, the run is covered
pub whole_run : (m n : Ends) (run : IdRange) (k : OpId) (h : ℕ) → GainsWithin m run n → map.get n k ≡ Some h
    → k.origin ≡ run.origin → k.number ≤ run.lo → run.hi ≤ h → (q : OpId)
    → covers (end_ranges n) q ≡ (covers (end_ranges m) q || in_range run q)
whole_run m n run k h gains at same low high q = same_bool (covers (end_ranges n) q)
    (covers (end_ranges m) q || in_range run q) (λ f. gains.within q f) (λ f. by (covers (end_ranges m) q) refl f)
  where
    by : (b : Bool) → covers (end_ranges m) q ≡ b → (b || in_range run q) ≡ true → covers (end_ranges n) q ≡ true
    by true e f = gains.stays q e
    by false e f = (
        let from = in_low run q f in
        let upto = in_high run q f in
        has_covers n q k h at (in_from (end_range (k, h)) q (same ∙ in_origin run q f) (omega (arith, from, low))
        (omega (arith, upto, high)))
        )

-- each run's first id is one of the first ids
pub first_among : (runs : List IdRange) (i : ℕ) (d : IdRange) → i < length runs
    → is_one_of (first_ids runs) (first_id (get_or runs i d)) ≡ true
first_among [] i d there = absurd (omega (arith, there))
first_among (r ∷ runs) zero d there = ap (λ b. b || is_one_of (first_ids runs) (first_id r)) (eq_self (first_id r))
first_among (r ∷ runs) (suc i) d there =
    let k = first_id (get_or runs i d) in
    ap (λ b. eq_by_cmp id_cmp k (first_id r) || b) (first_among runs i d (omega (arith, there)))
    ∙ or-true (eq_by_cmp id_cmp k (first_id r))

-- a run's first id is in the run, where that has an id
firsts_covered : (runs : List IdRange) → All (λ r. r.lo ≤ r.hi) runs → (q : OpId)
    → is_one_of (first_ids runs) q ≡ true → covers runs q ≡ true
firsts_covered [] ranges q h = absurd (true≢false (sym h))
firsts_covered (r ∷ runs) ranges q h = by (eq_by_cmp id_cmp q (first_id r)) refl h
    (λ g. firsts_covered runs (λ i d there. ranges (suc i) d (omega (arith, there))) q g)
  where
    by : (b : Bool) → eq_by_cmp id_cmp q (first_id r) ≡ b → (b || is_one_of (first_ids runs) q) ≡ true
        → (is_one_of (first_ids runs) q ≡ true → covers runs q ≡ true) → (in_range r q || covers runs q) ≡ true
    by true e g more =
        let is = same_id q (first_id r) e in
        let n : q.number ≡ r.lo = ap (λ a. a.number) is in
        let org : q.origin ≡ r.origin = ap (λ a. a.origin) is in
        let range : r.lo ≤ r.hi = ranges zero r (omega arith) in
        ap (λ b. b || covers runs q) (in_from r q (sym org) (omega (arith, n)) (omega (arith, n, range)))
    by false e g more = ap (λ b. in_range r q || b) (more g) ∙ or-true (in_range r q)

-- a run's first id has the run's place
first_id_at : (runs : List IdRange) (i : ℕ) (d : IdRange) → get_or (first_ids runs) i (first_id d)
    ≡ first_id (get_or runs i d)
first_id_at runs i d = get_or-map first_id runs i d

place_among : (runs : List IdRange) (i : ℕ) → i < length runs → i < length (first_ids runs)
place_among runs i there = rw (length-map runs first_id) there

-- the first id of one run more
module _ (runs : List IdRange) (i : ℕ) (d : IdRange) (k : OpId) (is : k ≡ first_id (get_or runs i d))
    (there : i < length runs) where
  pub run_laid : (before now : Ends) → (get_or runs i d).lo < 2 ^ 64 → IsLaid before (take i (first_ids runs)) now
      → IsLaid before (take (i + 1) (first_ids runs)) (map.insert now k (get_or runs i d).lo)
  run_laid before now fit h =
      let ids = first_ids runs in
      let at = first_id_at runs i d in
      let n : (get_or ids i (first_id d)).number ≡ (get_or runs i d).lo = ap (λ x. x.number) at in
      subst (λ x. IsLaid before (take (i + 1) ids) (map.insert now x (get_or runs i d).lo)) (at ∙ sym is)
      (subst (λ x. IsLaid before (take (i + 1) ids) (map.insert now (get_or ids i (first_id d)) x)) n
      (laid_more before now ids i (first_id d) (place_among runs i there) (omega (arith, n, fit)) h))

  pub run_lifted : (before now : Ends) → IsWithout now (take i (first_ids runs)) before
      → IsWithout (map.remove now k) (take (i + 1) (first_ids runs)) before
  run_lifted before now h =
      subst (λ x. IsWithout (map.remove now x) (take (i + 1) (first_ids runs)) before) (first_id_at runs i d ∙ sym is)
      (without_removed before now (first_ids runs) i (first_id d) (place_among runs i there) h)

  pub run_joined : (before now after : Ends)
      → AreJoined before (λ q. list_any (is_beside q) (take i (first_ids runs))) now
      → AreJoined now (λ q. is_beside q k) after
      → AreJoined before (λ q. list_any (is_beside q) (take (i + 1) (first_ids runs))) after
  run_joined before now after h g =
      joined_more before now after (first_ids runs) i (first_id d) (place_among runs i there) h
      (subst (λ x. AreJoined now (λ q. is_beside q x) after) (is ∙ sym (first_id_at runs i d)) g)

-- after the last run the first ids are all of them
pub firsts_all : (runs : List IdRange) (i : ℕ) → length runs ≤ i → take i (first_ids runs) ≡ first_ids runs
firsts_all runs i over = take_all i (first_ids runs) (rw (length-map runs first_id) over)

-- first ids add nothing to the runs that have them
within_enough : (a b c d : Bool) → (b ≡ true → c ≡ true) → c ≡ d → ((a || b) || c) ≡ (a || d)
within_enough true b c d f e = refl
within_enough false true c d f e = sym (f refl) ∙ e
within_enough false false c d f e = e

-- runs of ids that no range has
module _ (m : Ends) (ids : List OpId) (runs : List IdRange) (d : AreAsLongAsPossible m)
    (ranges : All (λ r. r.lo ≤ r.hi) runs) (same : (q : OpId) → covers runs q ≡ is_one_of ids q)
    (new : (q : OpId) → is_one_of ids q ≡ true → covers (end_ranges m) q ≡ false) where
  firsts_new : (q : OpId) → is_one_of (first_ids runs) q ≡ true → covers (end_ranges m) q ≡ false
  firsts_new q h = new q (sym (same q) ∙ firsts_covered runs ranges q h)

  -- the first ids of the runs are taken out again
  pub firsts_lifted : (n o : Ends) → IsSameBut m (first_ids runs) n → IsWithout o (first_ids runs) n → o ≡ m
  firsts_lifted n o but without =
      lifted m n o (first_ids runs) (fresh_begin m (first_ids runs) d.disjoint firsts_new) but without

  module _ (n : Ends) (laid : IsLaid m (first_ids runs) n) where
    pub firsts_disjoint : AreDisjoint n
    firsts_disjoint = laid_disjoint m (first_ids runs) n d firsts_new laid

    -- the ranges of the first ids are joined, and reach along the runs
    module _ (o : Ends) (joined : AreJoined n (λ q. list_any (is_beside q) (first_ids runs)) o) where
      pub firsts_longest : AreAsLongAsPossible o
      firsts_longest = joined_longest m (first_ids runs) n d firsts_new laid o joined

      covers_firsts : (q : OpId) → covers (end_ranges o) q
          ≡ (covers (end_ranges m) q || is_one_of (first_ids runs) q)
      covers_firsts q = joined_covers m (first_ids runs) n d firsts_new laid o joined q

      pub firsts_there : (q : OpId) → is_one_of (first_ids runs) q ≡ true → covers (end_ranges o) q ≡ true
      firsts_there q h = covers_firsts q ∙ ap (λ b. covers (end_ranges m) q || b) h ∙ or-true (covers (end_ranges m) q)

      pub ids_covered : (p : Ends)
          → ((q : OpId) → covers (end_ranges p) q ≡ (covers (end_ranges o) q || covers runs q)) → (q : OpId)
          → covers (end_ranges p) q ≡ (covers (end_ranges m) q || is_one_of ids q)
      ids_covered p reached q =
          reached q ∙ ap (λ b. b || covers runs q) (covers_firsts q)
          ∙ within_enough (covers (end_ranges m) q) (is_one_of (first_ids runs) q) (covers runs q) (is_one_of ids q)
          (λ h. firsts_covered runs ranges q h) (same q)
