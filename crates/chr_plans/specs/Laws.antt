-- The laws of active atoms.
use Rattle.std.specs.Prelude.{◌≡◌, ℕ, ◌<◌, List, length, map, Some, slice_get, IsTrue, All}
use Rattle.chr_base.specs.declared.atom.Atom.{Atom}
use Rattle.chr_base.specs.declared.rule.Rule.{Rule}
use Rattle.chr_base.specs.FinBag.{empty, ◌⊕◌, ◌⊖◌, IsWithin}
use Rattle.chr_base.specs.Rewriting.{IsAtRest}
use Rattle.chr_base.specs.Rules.{Step, Valuation, heads_of, heads_at, atoms_at, guard_holds}
use Rattle.chr_base.specs.Sameness.{parts_of}
use Rattle.chr_base.specs.Stores.{Store, store_of}
use Rattle.chr_plans.specs.declared.rows.Seat.{Seat}
use Rattle.chr_plans.specs.Seats.{NoPartners}
use Rattle.chr_plans.specs.Actives.{one, IsWith, NoInstanceWith, StepsWith}
use Rattle.chr_plans.specs.Grids.{Grid, contents, rows_in, without_rows, SitIn}
use Rattle.chr_plans.specs.Joined.{IsJoined, AreApart}

abbrev pub EmptyRests : Type 0
EmptyRests = (rules : List Rule) → IsAtRest (Step rules) empty

abbrev pub PartsRest : Type 0
PartsRest = (rules : List Rule) (s t : Store) → IsWithin t s → IsAtRest (Step rules) s → IsAtRest (Step rules) t

abbrev pub Absorbs : Type 0
Absorbs =
    (rules : List Rule) (s : Store) (a : Atom) → IsAtRest (Step rules) s → NoInstanceWith rules s a
    → IsAtRest (Step rules) (s ⊕ one a)

abbrev pub RemovedReacts : Type 0
RemovedReacts =
    (rules : List Rule) (i : ℕ) (r : Rule) (v : Valuation) (s : Store) (a : Atom) → slice_get rules i ≡ Some r
    → IsTrue (guard_holds v r.guard.items)
    → IsWith (store_of (atoms_at v r.removed.items)) (store_of (heads_at v r)) s a
    → StepsWith rules a s (s ⊖ (store_of (atoms_at v r.removed.items) ⊖ one a)) (store_of (atoms_at v r.body.items))

abbrev pub KeptReacts : Type 0
KeptReacts =
    (rules : List Rule) (i : ℕ) (r : Rule) (v : Valuation) (s : Store) (a : Atom) → slice_get rules i ≡ Some r
    → IsTrue (guard_holds v r.guard.items)
    → IsWith (store_of (atoms_at v r.kept.items)) (store_of (heads_at v r)) s a
    → StepsWith rules a s (s ⊖ store_of (atoms_at v r.removed.items)) (store_of (atoms_at v r.body.items) ⊕ one a)

abbrev pub RowsAreEnough : Type 0
RowsAreEnough =
    (rules : List Rule) (tables : Grid) (a : Atom)
    → ((i : ℕ) (r : Rule) (p : ℕ) → slice_get rules i ≡ Some r → p < length (heads_of r)
    → NoPartners r (rows_in tables) p a)
    → NoInstanceWith rules (contents tables) a

abbrev pub RowsLeave : Type 0
RowsLeave =
    (tables : Grid) (atoms : List Atom) (seats : List Seat) → SitIn tables atoms seats
    → IsWithin (store_of atoms) (contents tables)
    × (contents (without_rows tables seats) ≡ contents tables ⊖ store_of atoms)

abbrev pub SameRulesRest : Type 0
SameRulesRest =
    (rules others : List Rule) (s : Store) → map parts_of rules ≡ map parts_of others
    → IsAtRest (Step rules) s → IsAtRest (Step others) s

abbrev pub ApartRest : Type 0
ApartRest =
    (columns : List ℕ) (rules : List Rule) (s t : Store) → All (IsJoined columns) rules → AreApart columns s t
    → IsAtRest (Step rules) s → IsAtRest (Step rules) t → IsAtRest (Step rules) (s ⊕ t)
