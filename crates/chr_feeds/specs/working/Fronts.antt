-- What a write leaves of a file's front.
use Rattle.std.specs.Prelude.{◌≡◌, ℕ, ◌<◌, ◌≤◌, List, length, slice_index}

-- new is not shorter than old, and the same below n
pub record KeepsFront (n : ℕ) (old new : List ℕ) : Type 0 where
  pub no_shorter : length old ≤ length new
  pub same : (i : ℕ) → i < length old → i < n → slice_index new i ≡ slice_index old i
