use Rattle.std.proofs.Common.{◌≡◌, ℕ, ◌<◌, pos, length, get_or}
use Rattle.chr_tables.specs.working.Cells.{cell_value}
use Rattle.chr_tables.proofs.InColumns.{AgreeBelow}
use Rattle.chr_tables.proofs.cells.put_arguments.Given as goal

abbrev pub invariant-loop-j : goal.invariant-loop-j
invariant-loop-j l = record {
  count : length l.columns ≡ length l.fn.columns;
  before : AgreeBelow l.columns l.fn.columns l.row;
  done : (k : ℕ) → k < l.j → cell_value l.columns k l.row ≡ get_or l.values k (pos 0);
}
