-- What leaves the rows and what becomes fresh when a rule fires.
use Rattle.std.specs.Prelude.{ℕ, zero, suc, ◌-◌, List, [], ◌∷◌, ◌++◌, length, drop, remove, nat_lt, if◌then◌else◌}
use Rattle.chr_base.specs.declared.atom.Atom.{Atom}
use Rattle.chr_base.specs.declared.rule.Rule.{Rule}
use Rattle.chr_base.specs.FinBag.{◌⊕◌}
use Rattle.chr_base.specs.Rules.{Valuation, heads_of, atoms_at, atom_at}
use Rattle.chr_base.specs.Stores.{Store, store_of}
use Rattle.chr_plans.specs.declared.rows.Seat.{Seat}
use Rattle.chr_plans.specs.Plans.{pattern_at}
use Rattle.chr_plans.specs.Seats.{seat}
use Rattle.chr_plans.specs.Actives.{one}

-- how many of the heads without the active one are kept
abbrev pub kept_others : Rule → ℕ → ℕ
kept_others r p = if nat_lt p (length r.kept.items) then length r.kept.items - 1 else length r.kept.items

-- the removed heads without the active one
abbrev pub leaving : Rule → ℕ → List Atom → List Atom
leaving r p heads = drop (kept_others r p) (remove heads p)

-- the seats of the first n heads
unfoldable pub seats_to : List Seat → ℕ → List Seat
seats_to seats zero = []
seats_to seats (suc n) = seats_to seats n ++ seat seats n ∷ []

-- the rows of the removed heads without the active one
abbrev pub leaving_seats : Rule → ℕ → List Seat → List Seat
leaving_seats r p seats = drop (kept_others r p) (remove (seats_to seats (length (heads_of r))) p)

-- the body, and the active atom where it is kept
abbrev pub coming : Rule → ℕ → Valuation → Store
coming r p v =
    if nat_lt p (length r.kept.items) then store_of (atoms_at v r.body.items) ⊕ one (atom_at v (pattern_at r p))
    else store_of (atoms_at v r.body.items)
