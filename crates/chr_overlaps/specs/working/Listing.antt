-- How overlaps are listed: for each pair of rules, entry after entry, each from 0 up.
use Rattle.std.specs.Prelude.{ℕ, zero, suc, ◌+◌, ◌-◌, Bool, true, not, ◌&&◌, if◌then◌else◌, nat_eq, List, [], ◌∷◌, ◌++◌}
use Rattle.std.specs.Prelude.{length, get_or, slice_get, Option, Some, None}
use Rattle.std.specs.List.{flat_map, range_with_len}
use Rattle.chr_base.specs.declared.term.Pattern.{Pattern}
use Rattle.chr_base.specs.declared.rule.Rule.{Rule}
use Rattle.chr_base.specs.Rules.{heads_of, no_pattern}
use Rattle.chr_confluence.specs.Matchings.{names, matches_removed}
use Rattle.chr_overlaps.specs.declared.overlap.Overlap.{Overlap}

-- the patterns have one symbol and as many arguments
abbrev pub has_same_symbol : Pattern → Pattern → Bool
has_same_symbol p q = nat_eq p.symbol.0 q.symbol.0 && nat_eq (length p.args.items) (length q.args.items)

-- behind the entries m, the pattern p can have this entry: 0, or a place of qs with its symbol that m does not name
abbrev pub may_follow : List Pattern → List ℕ → Pattern → ℕ → Bool
may_follow qs m p zero = true
may_follow qs m p (suc k) = not (names m (suc k)) && has_same_symbol p (get_or qs k no_pattern)

abbrev pub with_entry : Overlap → ℕ → Overlap
with_entry o e = record o { matching = record { items = o.matching.items ++ e ∷ [] } }

-- the overlaps that go on from o with this entry, where it may follow
abbrev pub going_on : (Overlap → List Overlap) → List Pattern → Overlap → Pattern → ℕ → List Overlap
going_on deeper qs o p e = if may_follow qs o.matching.items p e then deeper (with_entry o e) else []

-- the overlaps of r and s that begin with the entries of o, where the patterns are the heads of r that have none yet
abbrev pub overlaps_behind : Rule → Rule → List Pattern → Overlap → List Overlap
overlaps_behind r s [] o =
    if matches_removed (length r.kept.items) (length s.kept.items) o.matching.items then o ∷ [] else []
overlaps_behind r s (p ∷ ps) o =
    flat_map (going_on (overlaps_behind r s ps) (heads_of s) o p) (range_with_len 0 (length (heads_of s) + 1))

-- an overlap of the rules at the places i and j, with no entry yet
abbrev pub begun : ℕ → ℕ → Overlap
begun i j = record { first = i + 1; second = j + 1; matching = record { items = [] } }

-- the overlaps of two rules that stand at the places i and j, if they are there
abbrev pub overlaps_at : ℕ → ℕ → Option Rule → Option Rule → List Overlap
overlaps_at i j None b = []
overlaps_at i j (Some r) None = []
overlaps_at i j (Some r) (Some s) = overlaps_behind r s (heads_of r) (begun i j)

abbrev pub overlaps_of_pair : List Rule → ℕ → ℕ → List Overlap
overlaps_of_pair rules i j = overlaps_at i j (slice_get rules i) (slice_get rules j)

-- the overlaps of a rule with itself and all after it
abbrev pub overlaps_of_rule : List Rule → ℕ → List Overlap
overlaps_of_rule rules i = flat_map (overlaps_of_pair rules i) (range_with_len i (length rules - i))
