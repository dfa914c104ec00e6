use Rattle.std.proofs.Common.{◌≡◌, length}
use Rattle.chr_tables.specs.working.Cells.{arguments}
use Rattle.chr_tables.proofs.cells.read_arguments.Given as goal

abbrev pub invariant-loop-column : goal.invariant-loop-column
invariant-loop-column l = record {
  items : l.args.items ≡ arguments l.columns l.row 0 l.column;
  count : length l.args.items ≡ l.column;
}
