use Rattle.std.proofs.Common.{ℕ, ◌<◌, ◌≤◌}
use Rattle.chr_columns.specs.working.Finding.{rows_but, Lives}
use Rattle.chr_columns.proofs.everywhere.Everywhere.below.Given as goal

abbrev pub invariant-loop-next : goal.invariant-loop-next
invariant-loop-next l = (other : ℕ) → l.next ≤ other → other < l.row
    → ¬ (Lives (rows_but l.self.tables.now l.self.fresh.now l.self.active) other)
