use Rattle.std.proofs.Common.{◌≡◌, ℕ, ◌<◌, ◌≤◌, [], ◌∷◌, ◌++◌, length, get_or}
use Rattle.std.specs.Prelude.{Some}
use Rattle.chr_tables.specs.working.Indexes.{no_way, atom_entry, keyed_entries, ways_of, rooms_of}
use Rattle.chr_tables.proofs.indexes.push_in.Given as goal

abbrev pub invariant-loop-i : goal.invariant-loop-i
invariant-loop-i l = record {
  len : length l.indexes ≡ length l.fn.indexes;
  ways : ways_of l.indexes ≡ ways_of l.fn.indexes;
  rooms : rooms_of l.indexes ≡ rooms_of l.fn.indexes;
  done : (j : ℕ) → j < l.i → get_or (keyed_entries l.indexes) j [] ≡ get_or (keyed_entries l.fn.indexes) j []
      ++ Some (atom_entry (get_or (ways_of l.fn.indexes) j no_way) l.atom) ∷ [];
  left : (j : ℕ) → l.i ≤ j → get_or (keyed_entries l.indexes) j [] ≡ get_or (keyed_entries l.fn.indexes) j [];
}
