use Rattle.std.proofs.Common.{◌≡◌, length}
use Rattle.chr_columns.proofs.making.no_keys.Given as goal

abbrev pub invariant-loop : goal.invariant-loop
invariant-loop l = length l.keys.items ≡ l.counter
