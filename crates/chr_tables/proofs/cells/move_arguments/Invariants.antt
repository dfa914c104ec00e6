use Rattle.std.proofs.Common.{◌≡◌, length}
use Rattle.chr_tables.proofs.Compacting.{HaveMoved}
use Rattle.chr_tables.proofs.cells.move_arguments.Given as goal

abbrev pub invariant-loop-j : goal.invariant-loop-j
invariant-loop-j l = record {
  count : length l.columns ≡ length l.fn.columns;
  moved : HaveMoved l.columns l.fn.columns l.to l.from l.j;
}
