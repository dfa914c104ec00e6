-- How many overlaps there are at most.
use Rattle.std.specs.Prelude.{ℕ, zero, suc, ◌+◌, ◌-◌, ◌*◌, ◌^◌, ◌≤◌, Bool, true, false, cond, List, [], ◌∷◌, length}
use Rattle.std.specs.Prelude.{Option, Some, None, slice_get}
use Rattle.std.specs.List.{list_all, flat_map, range_with_len}
use Rattle.std.proofs.Common.{arith, sym, subst, length-append}
use Rattle.std.proofs.Math.Nat.{suc-mul, pow-succ', pow-le-pow_right}
use Rattle.std.proofs.lemmas.Bool.{and_parts, leb-true}
use Rattle.std.proofs.lemmas.List.FromFn.{length-range_with_len}
use Rattle.chr_base.specs.declared.limits.TheConstants.{MAX_HEADS, MAX_RULES}
use Rattle.chr_base.specs.declared.rule.Rule.{Rule}
use Rattle.chr_base.specs.declared.term.Pattern.{Pattern}
use Rattle.chr_base.specs.declared.program.Program.{Program}
use Rattle.chr_base.proofs.Instances.{heads_few}
use Rattle.chr_base.specs.ProgramTests.{is_in_range, are_distinct, fits}
use Rattle.chr_base.specs.Programs.{declarations, rules_of}
use Rattle.chr_base.specs.Rules.{heads_of}
use Rattle.chr_confluence.specs.Matchings.{matches_removed}
use Rattle.chr_overlaps.specs.declared.overlap.Overlap.{Overlap}
use Rattle.chr_overlaps.specs.working.Listing.{may_follow, with_entry, going_on, overlaps_behind, begun, overlaps_at}
use Rattle.chr_overlaps.specs.working.Listing.{overlaps_of_pair, overlaps_of_rule}

few_joined : {A : Type 0} (f : ℕ → List A) (m k : ℕ) (xs : List ℕ) → ((x : ℕ) → length (f x) ≤ m) → length xs ≤ k
    → length (flat_map f xs) ≤ k * m
few_joined f m k [] few l = omega arith
few_joined f m zero (x ∷ xs) few l = absurd (omega (arith, l))
few_joined f m (suc k) (x ∷ xs) few l =
    let more = few_joined f m k xs few (omega (arith, l)) in
    let here = few x in
    let all = length-append (f x) (flat_map f xs) in
    let next = suc-mul k m in
    omega (arith, more, here, all, next)

few_range : {A : Type 0} (f : ℕ → List A) (m k a n : ℕ) → ((x : ℕ) → length (f x) ≤ m) → n ≤ k
    → length (flat_map f (range_with_len a n)) ≤ k * m
few_range f m k a n few l = few_joined f m k (range_with_len a n) few
    (let e = length-range_with_len a n in omega (arith, e, l))

few_if : {A : Type 0} (b : Bool) (xs : List A) (m : ℕ) → length xs ≤ m → length (cond b xs []) ≤ m
few_if true xs m l = l
few_if false xs m l = omega arith

-- each head has an entry: none, or a place of the other rule
abbrev entries_most : ℕ
entries_most = MAX_HEADS + 1

-- the overlaps that begin alike are few, where the heads ps have no entry yet
few_behind : (r s : Rule) (ps : List Pattern) (o : Overlap)
    → length (overlaps_behind r s ps o) ≤ entries_most ^ length ps
few_behind r s [] o = few_if (matches_removed (length r.kept.items) (length s.kept.items) o.matching.items) (o ∷ []) 1
    (omega arith)
few_behind r s (p ∷ ps) o =
    let m = entries_most ^ length ps in
    let each : (e : ℕ) → length (going_on (overlaps_behind r s ps) (heads_of s) o p e) ≤ m =
    λ e. few_if (may_follow (heads_of s) o.matching.items p e) (overlaps_behind r s ps (with_entry o e)) m
    (few_behind r s ps (with_entry o e)) in
    let heads = heads_few s in
    let few = few_range (going_on (overlaps_behind r s ps) (heads_of s) o p) m entries_most 0
    (length (heads_of s) + 1) each (omega (arith, heads)) in
    subst (λ n. length (overlaps_behind r s (p ∷ ps) o) ≤ n) (sym (pow-succ' entries_most (length ps))) few

few_of_pair : (rules : List Rule) (i j : ℕ) → length (overlaps_of_pair rules i j) ≤ entries_most ^ MAX_HEADS
few_of_pair rules i j = by (slice_get rules i) (slice_get rules j)
  where
    by : (a b : Option Rule) → length (overlaps_at i j a b) ≤ entries_most ^ MAX_HEADS
    by None b = omega arith
    by (Some r) None = omega arith
    by (Some r) (Some s) =
        let few = few_behind r s (heads_of r) (begun i j) in
        let most = pow-le-pow_right {n = entries_most} (omega arith) (heads_few r) in
        omega (arith, few, most)

few_of_rule : (rules : List Rule) → length rules ≤ MAX_RULES → (i : ℕ)
    → length (overlaps_of_rule rules i) ≤ MAX_RULES * entries_most ^ MAX_HEADS
few_of_rule rules l i = few_range (overlaps_of_pair rules i) (entries_most ^ MAX_HEADS) MAX_RULES i (length rules - i)
    (few_of_pair rules i) (omega (arith, l))

pub few_rules : (p : Program) → length (rules_of p) ≤ MAX_RULES
few_rules p =
    let ds = declarations p in
    let rs = rules_of p in
    let distinct = (and_parts _ (list_all (fits ds) rs) p.well_formed).0 in
    let ranges = (and_parts _ (are_distinct ds) distinct).0 in
    let counts = (and_parts _ (list_all is_in_range ds) ranges).0 in
    leb-true _ _ (and_parts _ _ counts).1

-- the overlaps of k rules are few
pub few_overlaps : (rules : List Rule) (a k : ℕ) → length rules ≤ MAX_RULES
    → length (flat_map (overlaps_of_rule rules) (range_with_len a k)) ≤ k * (MAX_RULES * (MAX_HEADS + 1) ^ MAX_HEADS)
few_overlaps rules a k l = few_range (overlaps_of_rule rules) (MAX_RULES * entries_most ^ MAX_HEADS) k a k
    (few_of_rule rules l) (omega arith)
