-- What some ranges have that others leave out.
use Rattle.std.specs.Prelude.{◌≡◌, ◌-◌, ◌≤◌, false, not, ◌&&◌, ◌||◌, nat_lt, List, [], ◌∷◌, if◌then◌else◌}
use Rattle.std.specs.List.{AllByRecursion}
use Rattle.chr_ops.specs.declared.id.OpId.{OpId}
use Rattle.chr_ops.specs.declared.range.IdRange.{IdRange}
use Rattle.chr_ops.specs.Summaries.{in_range, covers, IsBefore, IsApart}
use Rattle.chr_ops.specs.working.Walks.{first_id, ends_before}

-- each of some ranges ends before another begins, and does not touch it
abbrev pub AreBefore : List IdRange → IdRange → Type 0
AreBefore rs s = AllByRecursion (λ r. IsBefore r s) rs

-- the part of a range before another one begins, where there is one
abbrev pub part_before : IdRange → IdRange → List IdRange
part_before r s =
    if nat_lt r.lo s.lo then record { origin = r.origin; lo = r.lo; hi = s.lo - 1 } ∷ [] else []

-- a range comes behind some parts, and of others that are apart none ends before it
pub record IsNext (parts : List IdRange) (range : IdRange) (others : List IdRange) : Type 0 where
  pub holds : range.lo ≤ range.hi
  pub apart : IsApart parts
  pub behind : AreBefore parts range
  pub others_apart : IsApart others
  pub not_ended : AllByRecursion (λ s. ends_before s (first_id range) ≡ false) others

-- some parts are added to: they are apart, have what of a range the others leave out as well, and end with it
pub record AddsOutside (parts : List IdRange) (range : IdRange) (others new : List IdRange) : Type 0 where
  pub apart : IsApart new
  pub covering : (id : OpId) → covers new id ≡ (covers parts id || (in_range range id && not (covers others id)))
  pub in_order : (later : IdRange) → AreBefore parts later → IsBefore range later → AreBefore new later
