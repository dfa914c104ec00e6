use Rattle.std.proofs.Common.{◌≡◌, ℕ, ◌<◌, [], length, get_or}
use Rattle.chr_tables.specs.working.Indexes.{keyed_entries, ways_of, rooms_of}
use Rattle.chr_tables.proofs.indexes.reserve_in.Given as goal

abbrev pub invariant-loop-i : goal.invariant-loop-i
invariant-loop-i l = record {
  len : length l.indexes ≡ length l.fn.indexes;
  ways : ways_of l.indexes ≡ ways_of l.fn.indexes;
  rows : keyed_entries l.indexes ≡ keyed_entries l.fn.indexes;
  done : (j : ℕ) → j < l.i → length (get_or (keyed_entries l.fn.indexes) j []) < get_or (rooms_of l.indexes) j 0;
}
