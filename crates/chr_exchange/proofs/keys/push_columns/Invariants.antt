use Rattle.std.proofs.Common.{◌≤◌}
use Rattle.chr_exchange.proofs.keys.push_columns.Given as goal

abbrev pub invariant-loop-column : goal.invariant-loop-column
invariant-loop-column l = l.room ≤ 58
