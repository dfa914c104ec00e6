use Rattle.std.proofs.Common.{◌≡◌, ℕ, ◌+◌, ◌<◌, length}
use Rattle.chr_columns.specs.Rows.{row}
use Rattle.chr_columns.proofs.taking.rows_from.Given as goal

abbrev pub invariant-loop-q : goal.invariant-loop-q
invariant-loop-q l = record {
  count : length l.some.items ≡ l.q;
  same : (k : ℕ) → k < l.q → row l.some.items k ≡ row l.rows (l.first + k);
}
