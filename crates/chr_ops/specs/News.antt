-- What sets gained since others took from them.
use Rattle.std.specs.Prelude.{◌≡◌, ℕ, ◌≤◌, Bool, true, false, not, ◌&&◌, ◌||◌, List, Some, drop, length, slice_get}
use Rattle.std.specs.Prelude.{map as each}
use Rattle.std.specs.List.{list_any, filter}
use Rattle.std.specs.Map.{lookup}
use Rattle.std.specs.BTreeMap.{is_at}
use Rattle.std.specs.Ordering.{nat_cmp, eq_by_cmp}
use Rattle.std.specs.FinMap as map
use Rattle.chr_ops.specs.declared.id.OpId.{OpId}
use Rattle.chr_ops.specs.declared.news.Gains.{Gains}
use Rattle.chr_ops.specs.declared.news.News.{News}
use Rattle.chr_ops.specs.Ids.{id_cmp}
use Rattle.chr_ops.specs.Operations.{Operation, Operations}

-- whether an id is one of a list
abbrev pub is_one_of : List OpId → OpId → Bool
is_one_of ids q = list_any (eq_by_cmp id_cmp q) ids

-- the ids of operations
abbrev pub ids_of : List Operation → List OpId
ids_of os = each (λ o. o.0) os

-- the operations of the set m whose ids are among these and which the set n lacks, in the order of ids
abbrev pub lacked_among : Operations → Operations → List OpId → List Operation
lacked_among m n ids = filter (λ o. is_one_of ids o.0 && not (map.contains_key n o.0)) (map.entries m)

-- each id that the set m holds and n lacks is one of these
abbrev pub LacksOnly : Operations → Operations → List OpId → Type 0
LacksOnly m n ids =
    (q : OpId) → map.contains_key m q ≡ true → map.contains_key n q ≡ false → is_one_of ids q ≡ true

-- the set k holds nothing but what m does and operations of these ids
abbrev pub GainsOnly : Operations → Operations → List OpId → Type 0
GainsOnly m k ids = (q : OpId) → map.contains_key k q ≡ true → (map.contains_key m q || is_one_of ids q) ≡ true

-- the set n holds each id that m does
abbrev pub HoldsAll : Operations → Operations → Type 0
HoldsAll n m = (q : OpId) → map.contains_key m q ≡ true → map.contains_key n q ≡ true

-- what is kept of a giver that holds m is true of a taker that holds n: the taker lacks only what came since it last
-- took all
abbrev pub AreTrueOf : Gains → ℕ → Operations → Operations → Type 0
AreTrueOf g taker m n =
    (mark : ℕ) → lookup (is_at (nat_cmp taker)) g.met.entries ≡ Some mark
    → (mark ≤ length g.ids.items) × LacksOnly m n (drop mark g.ids.items)

-- what is kept of the giver of this number, which holds m, is true of the taker of that number, which holds n
abbrev pub IsTrueOf : News → ℕ → ℕ → Operations → Operations → Type 0
IsTrueOf w giver taker m n =
    (g : Gains) → lookup (is_at (nat_cmp giver)) w.givers.entries ≡ Some g → AreTrueOf g taker m n

-- what is kept is true of each two sets of a list, which have their places as numbers
abbrev pub IsTrueOfAll : News → List Operations → Type 0
IsTrueOfAll w ms =
    (a b : ℕ) (m n : Operations) → slice_get ms a ≡ Some m → slice_get ms b ≡ Some n → IsTrueOf w a b m n
