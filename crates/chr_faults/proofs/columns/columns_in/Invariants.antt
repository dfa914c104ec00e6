use Rattle.std.specs.List.{All}
use Rattle.chr_base.specs.Programs.{declarations}
use Rattle.chr_faults.specs.ColumnNames.{AreNames}
use Rattle.chr_faults.proofs.columns.columns_in.Given as goal

abbrev pub invariant-loop-naming : goal.invariant-loop-naming
invariant-loop-naming l = All (AreNames (declarations l.program)) l.all.items
