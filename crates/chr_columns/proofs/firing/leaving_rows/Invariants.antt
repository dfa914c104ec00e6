use Rattle.std.proofs.Common.{◌≡◌, ◌≤◌, length, drop}
use Rattle.std.specs.Prelude.{remove}
use Rattle.chr_columns.specs.working.Firing.{kept_others, seats_to}
use Rattle.chr_columns.proofs.firing.leaving_rows.Given as goal

abbrev pub invariant-loop-other : goal.invariant-loop-other
invariant-loop-other l = record {
  rows : l.rows.items ≡ drop (kept_others l.rule l.place) (remove (seats_to l.seats l.other) l.place);
  kept : length l.rule.kept.items ≤ l.other;
}
