use Rattle.std.proofs.Common.{◌≡◌, map, take}
use Rattle.std.specs.Prelude.{Some}
use Rattle.chr_tables.specs.working.Indexes.{keyed_entries, ways_of, rooms_of, AreIndexed}
use Rattle.chr_tables.proofs.indexes.enter_all.Given as goal

abbrev pub invariant-loop-row : goal.invariant-loop-row
invariant-loop-row l = record {
  ways : ways_of l.indexes ≡ ways_of l.fn.indexes;
  rooms : rooms_of l.indexes ≡ rooms_of l.fn.indexes;
  rows : AreIndexed (map (λ a. Some a) (take l.row l.atoms)) (ways_of l.fn.indexes) (keyed_entries l.indexes);
}
