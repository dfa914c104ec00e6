-- How far a search has come.
use Rattle.std.specs.Prelude.{◌≡◌, ℕ, ◌+◌, ◌<◌, ◌≤◌, List, [], ◌∷◌, length, get_or, map, take, Bool, true}
use Rattle.std.specs.Prelude.{if◌then◌else◌, slice_get, Option, Some, None, IsTrue, is_some}
use Rattle.std.specs.List.{list_all}
use Rattle.chr_base.specs.declared.atom.Atom.{Atom}
use Rattle.chr_base.specs.declared.rule.Rule.{Rule}
use Rattle.chr_plans.specs.declared.key.Key.{Key}
use Rattle.chr_plans.specs.declared.key.Limit.{Limit}
use Rattle.chr_plans.specs.declared.key.Source.{Source}
use Rattle.chr_plans.specs.declared.key.Source.TheVariants.{Constant, Argument}
use Rattle.chr_plans.specs.declared.plan.Lookup.{Lookup}
use Rattle.chr_plans.specs.declared.rows.Seat.{Seat}
use Rattle.chr_plans.specs.Keys.{source_value, allows}
use Rattle.chr_plans.specs.Planning.{is_in}
use Rattle.chr_plans.specs.Rows.{Tables, Columns, Ranks, HasKey}
use Rattle.chr_plans.specs.Seats.{head, seat, atom_in, IsSeated}
use Rattle.chr_plans.specs.Plans.{IsKnown, partners_of, places_of, rank_by}

-- the places that are looked for
abbrev pub looked_in : List Lookup → List ℕ
looked_in lookups = places_of (partners_of lookups)

-- at the known places the heads and seats are the same
abbrev pub AgreeAtKnown : List ℕ → ℕ → ℕ → List Atom → List Seat → List Atom → List Seat → Type 0
AgreeAtKnown places p n heads seats heads' seats' =
    (k : ℕ) → IsKnown places p n k → (head heads k ≡ head heads' k) × (seat seats k ≡ seat seats' k)

-- no instance goes on from the heads and seats at the known places
abbrev pub NoneFrom : Rule → Tables → ℕ → List ℕ → ℕ → List Atom → List Seat → Type 0
NoneFrom r rows p places n heads seats =
    (hs : List Atom) (ss : List Seat) → IsSeated r rows p hs ss → ¬ AgreeAtKnown places p n hs ss heads seats

-- no instance that goes on from these heads and seats sits at the place q in a row of a rank from `at` on
abbrev pub Past : Rule → Tables → (ℕ → ℕ) → ℕ → List ℕ → ℕ → ℕ → List Atom → List Seat → ℕ → Type 0
Past r rows rank p places n q heads seats at =
    (hs : List Atom) (ss : List Seat) → IsSeated r rows p hs ss → AgreeAtKnown places p n hs ss heads seats
    → ¬ (at ≤ rank (seat ss q).row)

-- where there is a next look-up, no such instance sits at its place in a row of a greater rank than this one
abbrev pub PastFrom : Rule → Tables → Ranks → ℕ → List Lookup → ℕ → List Atom → List Seat → ℕ → Type 0
PastFrom r rows rank p lookups n heads seats row =
    n < length lookups
    → Past r rows (rank_by rank (slice_get lookups n)) p (looked_in lookups) n (get_or (looked_in lookups) n 0)
    heads seats (rank_by rank (slice_get lookups n) row + 1)

-- the heads at the first n places sit in different live rows
pub record AreStarted (rows : Tables) (places : List ℕ) (n : ℕ) (heads : List Atom) (seats : List Seat) : Type 0 where
  pub there : (j : ℕ) → j < n
      → atom_in rows (seat seats (get_or places j 0)) ≡ Some (head heads (get_or places j 0))
  pub apart : (i j : ℕ) → i < j → j < n → ¬ (seat seats (get_or places i 0) ≡ seat seats (get_or places j 0))

-- the source is a constant, or an argument of a head at one of these places
abbrev pub is_ready : List ℕ → Source → Bool
is_ready known (Constant c) = true
is_ready known (Argument q c) = is_in q known

-- all sources of a key are ready
abbrev pub are_ready : List ℕ → List Key → Bool
are_ready known key = list_all (λ k. is_ready known k.source) key

-- the limits whose sources are known
abbrev pub known_limits : List ℕ → List Limit → List Limit
known_limits known [] = []
known_limits known (l ∷ ls) =
    if is_ready known l.source then l ∷ known_limits known ls else known_limits known ls

-- the row lives, and under the heads the limits allow its atom
abbrev pub IsAllowed : List Atom → List Limit → Option Atom → Type 0
IsAllowed heads limits row = (a : Atom) × (row ≡ Some a) × (list_all (allows heads a) limits ≡ true)

-- the look-up has an index
abbrev pub IsIndexed : Columns → Option Lookup → Type 0
IsIndexed columns None = ⊥
IsIndexed columns (Some l) = IsTrue (is_some (columns l.table l.index))

-- Some look-up, whose key is known from the active atom and the partners of the first n look-ups, finds no row by it
-- and by those of its limits that are known from them.
abbrev pub IsMissing : Tables → Columns → ℕ → List Lookup → ℕ → List Atom → Type 0
IsMissing rows columns p lookups n heads =
    (j : ℕ) × (l : Lookup) × (j < length lookups) × (get_or lookups j l ≡ l)
    × (are_ready (p ∷ take n (looked_in lookups)) l.partner.key.items ≡ true)
    × ((row : ℕ) → HasKey (columns l.table l.index)
    (map (λ k. source_value heads k.source) l.partner.key.items) (rows l.table row)
    → ¬ IsAllowed heads (known_limits (p ∷ take n (looked_in lookups)) l.partner.limits.items) (rows l.table row))
