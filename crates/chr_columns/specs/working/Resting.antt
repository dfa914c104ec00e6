-- Atoms at rest in tables, and the plans by which they are found.
use Rattle.std.specs.Prelude.{◌≡◌, ℕ, ◌+◌, ◌^◌, ◌<◌, ◌≤◌, List, [], ◌∷◌, ◌++◌, length, map, get_or, Option, Some, None}
use Rattle.std.specs.Prelude.{ℤ, slice_get, ⊤}
use Rattle.chr_base.specs.declared.atom.Atom.{Atom}
use Rattle.chr_base.specs.declared.rule.Rule.{Rule}
use Rattle.chr_base.specs.Rules.{Step, heads_at, heads_of, valued}
use Rattle.chr_base.specs.Rewriting.{IsAtRest}
use Rattle.chr_base.specs.Stores.{Store}
use Rattle.chr_plans.specs.declared.plan.Lookup.{Lookup}
use Rattle.chr_plans.specs.declared.plan.Plan.{Plan}
use Rattle.chr_plans.specs.declared.react.Standing.{Standing}
use Rattle.chr_plans.specs.declared.rows.Seat.{Seat}
use Rattle.chr_plans.specs.Rows.{Tables, Columns}
use Rattle.chr_plans.specs.Plans.{IsPlan, pattern_at, partners_of}
use Rattle.chr_plans.specs.Plans as plan
use Rattle.chr_plans.specs.Reactions.{MayResume}
use Rattle.chr_plans.specs.Seats.{IsSeated, head}
use Rattle.chr_tables.specs.Contents.{Contents, rows_of, index_columns, ranks_of}
use Rattle.chr_plans.specs.Grids.{Grid, contents}
use Rattle.chr_columns.specs.declared.groups.Group.{Group}
use Rattle.chr_columns.specs.declared.rested.Rested.{Rested}
use Rattle.chr_columns.specs.declared.rested.Occurrence.{Occurrence}
use Rattle.chr_columns.specs.working.Groups.{table_of_atom, table_of_pattern}

-- the rows of tables
abbrev pub grid : List Contents → Grid
grid tables = map (λ t. t.rows) tables

-- the atoms at rest
abbrev pub stored : Rested → Store
stored r = contents (grid r.tables.tables.items)

-- each look-up is in the table of its head, by an index with the columns of its key
abbrev pub AreLookupsIndexed : Rule → List Group → Columns → List Lookup → Type 0
AreLookupsIndexed r groups columns lookups =
    (j : ℕ) (l : Lookup) → j < length lookups → get_or lookups j l ≡ l
    → (columns l.table l.index ≡ Some (plan.columns_of l.partner.key.items))
    × (l.table ≡ table_of_pattern groups (pattern_at r l.partner.place))

-- the plan is one of its rule and place
abbrev pub IsPlanned : List Rule → List Group → Columns → Plan → Type 0
IsPlanned rules groups columns p =
    (r : Rule) × (slice_get rules p.rule ≡ Some r) × (p.place < length (heads_of r))
    × IsPlan r p.place (partners_of p.lookups.items) × AreLookupsIndexed r groups columns p.lookups.items

-- each plan of a group is one of its rule and place
abbrev pub ArePlanned : List Rule → List Group → Columns → Type 0
ArePlanned rules groups columns =
    (t : ℕ) (g : Group) (j : ℕ) (p : Plan) → slice_get groups t ≡ Some g → slice_get g.plans.items j ≡ Some p
    → IsPlanned rules groups columns p

-- The group has a plan for this place of the rule of this number: the plan of the place, or that of a place that reads
-- like it.
abbrev pub HasPlan : List Group → ℕ → ℕ → Rule → ℕ → Type 0
HasPlan groups t i r p =
    (g : Group) × (j : ℕ) × (plan : Plan) × (slice_get groups t ≡ Some g)
    × (slice_get g.plans.items j ≡ Some plan) × (plan.rule ≡ i) × (pattern_at r p ≡ pattern_at r plan.place)

-- The head places of a rule from the nth on have plans in the groups of their heads; after it, all places of the first
-- n rules have.
abbrev pub HavePlans : List Group → ℕ → Rule → ℕ → Type 0
HavePlans groups i r n =
    (p : ℕ) → n ≤ p → p < length (heads_of r) → HasPlan groups (table_of_pattern groups (pattern_at r p)) i r p

abbrev pub AreCovered : List Rule → List Group → ℕ → Type 0
AreCovered rules groups n =
    (i : ℕ) (r : Rule) → i < n → slice_get rules i ≡ Some r → HavePlans groups i r 0

-- There is a table for each group and one more, and each atom is in its table. Each head place has a plan, its own or
-- that of a place that reads like it.
pub record IsSetUp (rules : List Rule) (groups : List Group) (rows : Tables) (columns : Columns)
    (count : ℕ) : Type 0 where
  pub tables : count ≡ length groups + 1
  pub few : length groups < 2 ^ 31
  pub placed : (t n : ℕ) (a : Atom) → rows t n ≡ Some a → t ≡ table_of_atom groups a
  pub plans : ArePlanned rules groups columns
  pub covered : AreCovered rules groups (length rules)

-- the atoms are at rest under the rules
pub record IsRested (r : Rested) : Type 0 where
  pub set_up : IsSetUp r.rules.items r.directory.groups.items (rows_of r.tables.tables.items)
      (index_columns r.tables.tables.items)
      (length r.tables.tables.items)
  pub rests : IsAtRest (Step r.rules.items) (stored r)

-- an instance with the active atom at that place of that rule, and the others in different rows, by these values of the
-- rule's variables
pub record IsReacting (r : Rested) (a : Atom) (o : Occurrence) (heads : List Atom) (seats : List Seat)
    (values : List ℤ) : Type 0 where
  pub rule : Rule
  pub at : slice_get r.rules.items o.rule ≡ Some rule
  pub within : o.place < length (heads_of rule)
  pub seated : IsSeated rule (rows_of r.tables.tables.items) o.place heads seats
  pub active : head heads o.place ≡ a
  pub bound : heads_at (valued values) rule ≡ heads

-- the search for partners of the atom may go on where it stands, by the plans of its group
abbrev pub MayGoOn : Rested → Atom → Standing → Type 0
MayGoOn r a s =
    (g : Group) → slice_get r.directory.groups.items (table_of_atom r.directory.groups.items a) ≡ Some g
    → MayResume r.rules.items (rows_of r.tables.tables.items) (ranks_of r.tables.tables.items) a g.plans.items s

-- the search for partners of the last fresh atom may go on where it stands, if it stands somewhere
abbrev pub Stands : Rested → List Atom → Option Standing → Type 0
Stands r fresh None = ⊤
Stands r fresh (Some s) = (xs : List Atom) (a : Atom) → fresh ≡ xs ++ a ∷ [] → MayGoOn r a s

-- what every pool keeps
abbrev pub IsPool : Rested → List Atom → Option Standing → Type 0
IsPool r fresh standing = IsRested r × Stands r fresh standing
