-- Instances of a rule with an active atom, whose other heads, its partners, sit in rows.
use Rattle.std.specs.Prelude.{◌≡◌, ℕ, ◌<◌, List, length, get_or, Option, Some}
use Rattle.chr_base.specs.declared.atom.Atom.{Atom}
use Rattle.chr_base.specs.declared.rule.Rule.{Rule}
use Rattle.chr_base.specs.Rules.{HasInstance, heads_of}
use Rattle.chr_plans.specs.declared.rows.Seat.{Seat}
use Rattle.chr_base.specs.Atoms.{no_atom}
use Rattle.chr_plans.specs.Rows.{Tables}

-- what is read past the last seat
abbrev pub no_seat : Seat
no_seat = record { table = 0; row = 0 }

-- the head at a place
abbrev pub head : List Atom → ℕ → Atom
head heads k = get_or heads k no_atom

-- the seat at a place
abbrev pub seat : List Seat → ℕ → Seat
seat seats k = get_or seats k no_seat

-- the atom that sits there, where its row lives
abbrev pub atom_in : Tables → Seat → Option Atom
atom_in rows s = rows s.table s.row

-- a head place of the rule other than the active one
abbrev pub IsOther : Rule → ℕ → ℕ → Type 0
IsOther r p q = (q < length (heads_of r)) × ¬ (q ≡ p)

-- the heads are an instance of the rule, and those at other places than the active one sit in different live rows
pub record IsSeated (r : Rule) (rows : Tables) (p : ℕ) (heads : List Atom) (seats : List Seat) : Type 0 where
  pub instance : HasInstance r heads
  pub there : (q : ℕ) → IsOther r p q → atom_in rows (seat seats q) ≡ Some (head heads q)
  pub apart : (q k : ℕ) → IsOther r p q → IsOther r p k → ¬ (q ≡ k) → ¬ (seat seats q ≡ seat seats k)

-- in no instance the atom is the head at this place and the others sit in different live rows
abbrev pub NoPartners : Rule → Tables → ℕ → Atom → Type 0
NoPartners r rows p a = (heads : List Atom) (seats : List Seat) → IsSeated r rows p heads seats → ¬ (head heads p ≡ a)

-- in no instance with the atom at this place the head at the place q sits in a row of a greater rank than this one
abbrev pub NoneAbove : Rule → Tables → (ℕ → ℕ) → ℕ → Atom → ℕ → ℕ → Type 0
NoneAbove r rows rank p a q row =
    (heads : List Atom) (seats : List Seat) → IsSeated r rows p heads seats → head heads p ≡ a
    → ¬ (rank row < rank (seat seats q).row)
