-- Steps of what is kept of one giver.
use Rattle.std.specs.Prelude.{◌≡◌, ℕ, ◌++◌, ◌⊎◌, List, [], Some, drop, length, if◌then◌else◌}
use Rattle.std.specs.Map.{lookup}
use Rattle.std.specs.BTreeMap.{is_at}
use Rattle.std.specs.Ordering.{nat_cmp}
use Rattle.chr_ops.specs.declared.id.OpId.{OpId}
use Rattle.chr_ops.specs.declared.news.Gains.{Gains}

-- the ids are those from the mark of a taker on
abbrev pub IsSince : Gains → ℕ → List OpId → Type 0
IsSince g taker ids =
    (mark : ℕ) × (lookup (is_at (nat_cmp taker)) g.met.entries ≡ Some mark) × (ids ≡ drop mark g.ids.items)

-- these ids join those that are kept, and the marks stay; or no mark is kept
abbrev pub GainsOrForgets : Gains → List OpId → Gains → Type 0
GainsOrForgets g ids h =
    (h.met.entries ≡ []) ⊎ ((h.met.entries ≡ g.met.entries) × (h.ids.items ≡ g.ids.items ++ ids))

-- the mark of a taker is the number of ids, or no mark changes
abbrev pub Meets : Gains → ℕ → Gains → Type 0
Meets g taker h =
    (h.ids.items ≡ g.ids.items)
    × (((q : ℕ) → lookup (is_at (nat_cmp q)) h.met.entries
    ≡ (if is_at (nat_cmp taker) q then Some (length g.ids.items) else lookup (is_at (nat_cmp q)) g.met.entries))
    ⊎ ((q : ℕ) → lookup (is_at (nat_cmp q)) h.met.entries ≡ lookup (is_at (nat_cmp q)) g.met.entries))
