use Rattle.std.proofs.Common.{◌≡◌, ℕ, ◌<◌, ◌≤◌, [], length, get_or, set}
use Rattle.std.specs.Prelude.{None}
use Rattle.chr_tables.specs.working.Indexes.{keyed_entries, ways_of}
use Rattle.chr_tables.proofs.indexes.kill_in.Given as goal

abbrev pub invariant-loop-i : goal.invariant-loop-i
invariant-loop-i l = record {
  len : length l.indexes ≡ length l.fn.indexes;
  ways : ways_of l.indexes ≡ ways_of l.fn.indexes;
  done : (j : ℕ) → j < l.i → get_or (keyed_entries l.indexes) j []
      ≡ set (get_or (keyed_entries l.fn.indexes) j []) l.row None;
  left : (j : ℕ) → l.i ≤ j → get_or (keyed_entries l.indexes) j [] ≡ get_or (keyed_entries l.fn.indexes) j [];
}
