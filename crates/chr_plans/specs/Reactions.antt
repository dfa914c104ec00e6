-- What plans find for an active atom.
use Rattle.std.specs.Prelude.{◌≡◌, ℕ, ℤ, ◌<◌, List, length, slice_get, Option, Some, None, ⊤}
use Rattle.chr_base.specs.declared.atom.Atom.{Atom}
use Rattle.chr_base.specs.declared.rule.Rule.{Rule}
use Rattle.chr_base.specs.Rules.{heads_at, heads_of, valued}
use Rattle.chr_plans.specs.declared.rows.Seat.{Seat}
use Rattle.chr_plans.specs.declared.plan.Plan.{Plan}
use Rattle.chr_plans.specs.Rows.{Tables, Columns, Ranks}
use Rattle.chr_plans.specs.declared.react.Standing.{Standing}
use Rattle.chr_plans.specs.Seats.{IsSeated, NoPartners, head, seat}
use Rattle.chr_plans.specs.Plans.{IsPlan, FitsTables, FirstNoneAbove, first_place, partners_of}

-- the plan is one of a rule and a head place of it, and fits the tables
abbrev pub FitsPlan : List Rule → Tables → Columns → Option Plan → Type 0
FitsPlan rules rows columns None = ⊥
FitsPlan rules rows columns (Some plan) =
    (r : Rule) × (slice_get rules plan.rule ≡ Some r) × (plan.place < length (heads_of r))
    × IsPlan r plan.place (partners_of plan.lookups.items) × FitsTables r plan.lookups.items rows columns

-- The plan's rule has an instance with these heads, by these values of its variables. The atom is the one at the plan's
-- place, and the others sit in these rows, of which there is one for each place.
abbrev pub Reacts : List Rule → Tables → Atom → Option Plan → List Atom → List Seat → List ℤ → Type 0
Reacts rules rows a None heads seats values = ⊥
Reacts rules rows a (Some plan) heads seats values =
    (r : Rule) × (slice_get rules plan.rule ≡ Some r) × IsSeated r rows plan.place heads seats
    × (head heads plan.place ≡ a) × (length seats ≡ length (heads_of r)) × (heads_at (valued values) r ≡ heads)

-- at the plan's place the atom is in no instance with the rows
abbrev pub NoneBy : List Rule → Tables → Atom → Option Plan → Type 0
NoneBy rules rows a None = ⊥
NoneBy rules rows a (Some plan) =
    (r : Rule) → slice_get rules plan.rule ≡ Some r → NoPartners r rows plan.place a

-- the row in which the first partner of the plan sits
abbrev pub first_row : Option Plan → List Seat → ℕ
first_row None seats = 0
first_row (Some plan) seats = (seat seats (first_place plan.lookups.items)).row

-- with the atom at the plan's place no first partner sits in a row of a greater rank than this one
abbrev pub NoneAboveBy : List Rule → Tables → Ranks → Atom → Option Plan → ℕ → Type 0
NoneAboveBy rules rows rank a None row = ⊤
NoneAboveBy rules rows rank a (Some plan) row =
    (r : Rule) → slice_get rules plan.rule ≡ Some r → FirstNoneAbove r rows rank plan.place a plan.lookups.items row

-- A search for partners of the atom may go on where it stands: the plans before have none, and by this plan no first
-- partner sits in a row of a greater rank.
abbrev pub MayResume : List Rule → Tables → Ranks → Atom → List Plan → Standing → Type 0
MayResume rules rows rank a plans s =
    ((k : ℕ) → k < s.plan → NoneBy rules rows a (slice_get plans k))
    × NoneAboveBy rules rows rank a (slice_get plans s.plan) s.row
