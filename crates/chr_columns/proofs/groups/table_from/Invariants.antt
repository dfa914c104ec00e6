use Rattle.std.proofs.Common.{◌≡◌, ◌+◌, drop}
use Rattle.chr_columns.specs.working.Groups.{table_of}
use Rattle.chr_columns.proofs.groups.table_from.Given as goal

abbrev pub invariant-loop-i : goal.invariant-loop-i
invariant-loop-i l = table_of l.groups l.symbol l.arity ≡ l.i + table_of (drop l.i l.groups) l.symbol l.arity
