use Rattle.std.specs.Prelude.{take}
use Rattle.std.specs.List.{All}
use Rattle.chr_faults.specs.ColumnNames.{AreFor}
use Rattle.chr_faults.proofs.columns.columns_of.Given as goal

abbrev pub invariant-loop-columns : goal.invariant-loop-columns
invariant-loop-columns l = All (λ c. ¬ AreFor l.symbol c) (take l.columns-index l.all)
