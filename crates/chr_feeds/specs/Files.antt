-- A file at the end of its records, and what a crash may leave of it.
use Rattle.std.specs.Prelude.{◌≡◌, ℕ, ◌+◌, ◌<◌, ◌≤◌, List, ◌++◌, length, slice_index}
use Rattle.std.specs.List.{Contains}
use Rattle.chr_records.specs.Records.{records_of, IsFront}

-- n blanks stand from `at` on
pub record IsBlank (at n : ℕ) (file : List ℕ) : Type 0 where
  pub within : at + n ≤ length file
  pub each : (i : ℕ) → i < n → slice_index file (at + i) ≡ 0

-- the file stands for the old records and a front of the new ones
abbrev pub IsGrown : List (List ℕ) → List (List ℕ) → List ℕ → Type 0
IsGrown old new file = (front : List (List ℕ)) × IsFront front new × (records_of file ≡ old ++ front)

-- each outcome of a crash has the text among its records
abbrev pub IsDurable : (List ℕ → Type 0) → List ℕ → Type 0
IsDurable outcomes text = (file : List ℕ) → outcomes file → Contains (records_of file) text
