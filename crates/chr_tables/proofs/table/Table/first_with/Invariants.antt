use Rattle.std.specs.Prelude.{None}
use Rattle.std.proofs.Common.{ℕ, ◌-◌, ◌<◌, ◌≤◌, length, get_or}
use Rattle.chr_tables.specs.Contents.{HasArgument}
use Rattle.chr_tables.proofs.table.Table.first_with.Given as goal

abbrev pub invariant-loop-at : goal.invariant-loop-at
invariant-loop-at l = record {
  from_on : l.from ≤ l.at;
  lack : (row : ℕ) → l.from ≤ row → row < l.at → ¬ (HasArgument l.column l.value (get_or l.self.rows row None));
}

abbrev pub decreases-loop-at : goal.decreases-loop-at
decreases-loop-at l = length l.self-inside.atoms - l.at
