-- Plans of an occurrence: what each keeps, and how its look-ups fit tables.
use Rattle.std.specs.Prelude.{◌≡◌, ℕ, ◌<◌, ◌⊎◌, List, [], ◌∷◌, map, length, get_or, slice_get, Option, Some, None}
use Rattle.std.specs.Prelude.{true, ⊤}
use Rattle.chr_base.specs.declared.atom.Atom.{Atom}
use Rattle.chr_base.specs.declared.term.Pattern.{Pattern}
use Rattle.chr_base.specs.declared.rule.Rule.{Rule}
use Rattle.chr_base.specs.Rules.{has_shape, HasInstance, heads_of, no_pattern}
use Rattle.chr_plans.specs.declared.key.Source.{Source}
use Rattle.chr_plans.specs.declared.key.Source.TheVariants.{Constant, Argument}
use Rattle.chr_plans.specs.declared.key.Key.{Key}
use Rattle.chr_plans.specs.declared.key.Test.{Test}
use Rattle.chr_plans.specs.declared.key.Limit.{Limit}
use Rattle.chr_plans.specs.declared.plan.Partner.{Partner}
use Rattle.chr_plans.specs.declared.plan.Lookup.{Lookup}
use Rattle.chr_plans.specs.Keys.{argument, source_value, passes, allows}
use Rattle.chr_plans.specs.Rows.{Tables, Columns, Ranks}
use Rattle.chr_plans.specs.Seats.{head, NoneAbove}

-- the head of the rule at a place
abbrev pub pattern_at : Rule → ℕ → Pattern
pattern_at r q = get_or (heads_of r) q no_pattern

-- the places of the partners
abbrev pub places_of : List Partner → List ℕ
places_of partners = map (λ l. l.place) partners

-- the partners that are looked up
abbrev pub partners_of : List Lookup → List Partner
partners_of lookups = map (λ l. l.partner) lookups

-- the columns of a key
abbrev pub columns_of : List Key → List ℕ
columns_of key = map (λ k. k.column) key

-- the place is the active one, or one of the first n of these
abbrev pub IsKnown : List ℕ → ℕ → ℕ → ℕ → Type 0
IsKnown places p n q = (q ≡ p) ⊎ ((j : ℕ) × (j < n) × (get_or places j 0 ≡ q))

-- the head that the source reads, where it reads one, is known
abbrev pub IsReady : List ℕ → ℕ → ℕ → Source → Type 0
IsReady places p n (Constant c) = ⊤
IsReady places p n (Argument q c) = IsKnown places p n q

-- in each instance the source has the value of that column of the head at the place q
abbrev pub IsSource : Rule → ℕ → ℕ → Source → Type 0
IsSource r q column s =
    (heads : List Atom) → HasInstance r heads → argument (head heads q) column ≡ source_value heads s

-- what is known gives the values of these columns of the head at the place q
abbrev pub AreKeys : Rule → List ℕ → ℕ → ℕ → ℕ → List Key → Type 0
AreKeys r places p n q [] = ⊤
AreKeys r places p n q (k ∷ ks) =
    IsReady places p n k.source × IsSource r q k.column k.source × AreKeys r places p n q ks

-- each instance of the rule passes the test
abbrev pub IsTest : Rule → Test → Type 0
IsTest r t = (heads : List Atom) → HasInstance r heads → passes heads t ≡ true

-- the values that these tests compare are known
abbrev pub AreTests : Rule → List ℕ → ℕ → ℕ → List Test → Type 0
AreTests r places p n [] = ⊤
AreTests r places p n (t ∷ ts) =
    IsReady places p n t.left × IsReady places p n t.right × IsTest r t × AreTests r places p n ts

-- in each instance the limit allows the head at the place q
abbrev pub IsLimit : Rule → ℕ → Limit → Type 0
IsLimit r q l = (heads : List Atom) → HasInstance r heads → allows heads (head heads q) l ≡ true

-- the values with which these limits compare are known
abbrev pub AreLimits : Rule → List ℕ → ℕ → ℕ → ℕ → List Limit → Type 0
AreLimits r places p n q [] = ⊤
AreLimits r places p n q (l ∷ ls) = IsReady places p n l.source × IsLimit r q l × AreLimits r places p n q ls

-- The partners are at all places but the active one, each once; their keys, tests and limits are by what is known.
pub record IsPlan (r : Rule) (p : ℕ) (partners : List Partner) : Type 0 where
  pub covers : (q : ℕ) → q < length (heads_of r) → IsKnown (places_of partners) p (length partners) q
  pub within : (j : ℕ) → j < length partners → get_or (places_of partners) j 0 < length (heads_of r)
  pub others : (j : ℕ) → j < length partners → ¬ (get_or (places_of partners) j 0 ≡ p)
  pub once : (i j : ℕ) → i < j → j < length partners
      → ¬ (get_or (places_of partners) i 0 ≡ get_or (places_of partners) j 0)
  pub keys : (j : ℕ) (l : Partner) → j < length partners → get_or partners j l ≡ l
      → AreKeys r (places_of partners) p j l.place l.key.items
  pub tests : (j : ℕ) (l : Partner) → j < length partners → get_or partners j l ≡ l
      → AreTests r (places_of partners) p j l.tests.items
  pub limits : (j : ℕ) (l : Partner) → j < length partners → get_or partners j l ≡ l
      → AreLimits r (places_of partners) p j l.place l.limits.items

-- Each look-up's index has the columns of its key, and atoms of its head's shape live in its table alone.
pub record FitsTables (r : Rule) (lookups : List Lookup) (rows : Tables) (columns : Columns) : Type 0 where
  pub index : (j : ℕ) (l : Lookup) → j < length lookups → get_or lookups j l ≡ l
      → columns l.table l.index ≡ Some (columns_of l.partner.key.items)
  pub table : (j : ℕ) (l : Lookup) (t n : ℕ) (a : Atom) → j < length lookups → get_or lookups j l ≡ l
      → rows t n ≡ Some a → has_shape (pattern_at r l.partner.place) a ≡ true → t ≡ l.table

-- the place of the first partner
abbrev pub first_place : List Lookup → ℕ
first_place lookups = get_or (places_of (partners_of lookups)) 0 0

-- the ranks of rows in the index of a look-up; where there is no look-up, the rows' numbers
abbrev pub rank_by : Ranks → Option Lookup → ℕ → ℕ
rank_by rank None row = row
rank_by rank (Some l) row = rank l.table l.index row

-- where there are partners, in no instance with the atom at its place the first one sits in a row of a greater rank
-- than this one
abbrev pub FirstNoneAbove : Rule → Tables → Ranks → ℕ → Atom → List Lookup → ℕ → Type 0
FirstNoneAbove r rows rank p a lookups row =
    0 < length lookups → NoneAbove r rows (rank_by rank (slice_get lookups 0)) p a (first_place lookups) row
