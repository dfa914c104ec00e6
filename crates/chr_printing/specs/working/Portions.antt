-- The atoms of tables in portions.
use Rattle.std.specs.Prelude.{◌≡◌, ℕ, ℤ, pos, ◌+◌, List, IfSome, Option, Vec, filter, flat_map, get_or, int_lt}
use Rattle.std.specs.Prelude.{length, nat_eq}
use Rattle.std.specs.Borrow.{Bor}
use Rattle.std.specs.List.{All, AllZip, position_or_len, range_with_len}
use Rattle.std.specs.declared.alloc.Global.{Global}
use Rattle.chr_base.specs.declared.atom.Atom.{Atom}
use Rattle.chr_base.specs.ProgramTests.{Declaration}
use Rattle.chr_base.specs.Stores.{store_of}
use Rattle.chr_plans.specs.Grids.{live_atoms}
use Rattle.chr_tables.specs.Contents.{Contents}
use Rattle.chr_printing.specs.declared.flat.Flat.{Flat}
use Rattle.chr_printing.specs.working.Printing.{IsWrittenOut, flats_atoms}

-- the first argument of an atom, and 0 where it has none
abbrev pub first_argument : Atom → ℤ
first_argument a = get_or a.args.items 0 (pos 0)

-- the place of the first cut that is above the atom's first argument, or the number of cuts where none is
abbrev pub place_at : List ℤ → Atom → ℕ
place_at cuts a = position_or_len (λ c. int_lt (first_argument a) c) cuts

-- the atoms that belong into the portion at a place
abbrev pub portion : List ℤ → ℕ → List Atom → List Atom
portion cuts place atoms = filter (λ a. nat_eq (place_at cuts a) place) atoms

-- the atoms of all tables
abbrev pub atoms_at : List (Bor Contents) → List Atom
atoms_at tables = flat_map (λ t. live_atoms t.now.rows) tables

-- the atoms of a portion, written out symbol by symbol
pub record IsPortion (ds : List Declaration) (cuts : List ℤ) (atoms : List Atom) (place : ℕ) (flats : List Flat)
    : Type 0 where
  pub written : All (IsWrittenOut ds) flats
  pub same : store_of (flats_atoms flats) ≡ store_of (portion cuts place atoms)

-- each portion that could be written is one
abbrev pub ArePortions : List Declaration → List ℤ → List Atom → List (Option (Vec Flat Global)) → Type 0
ArePortions ds cuts atoms portions =
    AllZip (λ place found. IfSome found (λ flats. IsPortion ds cuts atoms place flats.items))
    (range_with_len 0 (length cuts + 1)) portions
