-- What every index keeps.
use Rattle.std.specs.Prelude.{◌≡◌, ℕ, ℤ, ◌<◌, ◌^◌, List, length, map, cond, Option, Some, None}
use Rattle.std.specs.Coded.{Coded, code_by, coded×, coded_ℕ, coded_ℤ, coded_list, coded_option}
use Rattle.std.proofs.Common.{refl}
use Rattle.chr_indexes.specs.declared.ranges.row.Row.{Row}
use Rattle.chr_indexes.specs.declared.ranges.row.Link.{Link}
use Rattle.chr_indexes.specs.RangedRows.{Entry, ListedEntries}
use Rattle.chr_indexes.specs.working.RangeChains.{AreLinked, AreHeads}

-- what a row is found by, where it lives
abbrev pub entry_of : Row → Option Entry
entry_of r = cond r.alive (Some (record { hash = r.hash; value = r.value })) None

abbrev pub entries_of : List Row → List (Option Entry)
entries_of rows = map entry_of rows

abbrev pub coded_entry : Coded Entry
coded_entry =
    code_by (ℕ × ℤ) (coded× coded_ℕ coded_ℤ) (λ e. (e.hash, e.value))
    (λ p. record { hash = p.0; value = p.1 }) (λ _. refl)

abbrev pub entries_code : Coded ListedEntries
entries_code =
    code_by (List (Option Entry) × ℕ) (coded× (coded_list (coded_option coded_entry)) coded_ℕ)
    (λ e. (e.rows, e.room)) (λ p. record { rows = p.0; room = p.1 }) (λ _. refl)

-- each row stands in the chain of its slot
pub record IsRangeIndex (rows : List Row) (links : List Link) (heads : List ℕ) : Type 0 where
  pub as_many : length links ≡ length rows
  pub few : length rows < 2 ^ 32
  pub some : 0 < length heads
  pub most : length heads < 2 ^ 32
  pub newest : AreHeads rows heads (length rows)
  pub linked : AreLinked (length heads) rows links (length rows)
