use Rattle.std.proofs.Common.{◌≡◌, take}
use Rattle.chr_columns.proofs.making.copy_of.Given as goal

abbrev pub invariant-loop-column : goal.invariant-loop-column
invariant-loop-column l = l.copy.items ≡ take l.column-index l.columns.items
