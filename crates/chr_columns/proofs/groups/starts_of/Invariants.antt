use Rattle.std.proofs.Common.{◌≡◌, length}
use Rattle.chr_columns.specs.working.Groups.{AreStarts}
use Rattle.chr_columns.proofs.groups.starts_of.Given as goal

abbrev pub invariant-loop-symbol : goal.invariant-loop-symbol
invariant-loop-symbol l = record {
  starts : AreStarts l.starts.items l.groups;
  many : length l.starts.items ≡ l.symbol;
}
