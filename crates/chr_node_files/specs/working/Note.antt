-- Calls of a file, as numbers and bytes.
use Rattle.std.specs.Prelude.{ℕ, List, ◌∷◌, slice_index, ◌==◌, if◌then◌else◌}
use Rattle.sqlite_disk.specs.Events.{Event}

-- The call that these numbers and bytes stand for: its kind, its two numbers, whether it was done, and its bytes,
-- before which a tested read has its key and its digest.
abbrev pub event_of : List ℕ → List ℕ → Event
event_of numbers bytes = (
  slice_index numbers 0,
  slice_index numbers 1,
  slice_index numbers 2,
  slice_index numbers 3 == 1,
  if slice_index numbers 0 == 6 then slice_index numbers 4 ∷ slice_index numbers 5 ∷ bytes else bytes,
)
