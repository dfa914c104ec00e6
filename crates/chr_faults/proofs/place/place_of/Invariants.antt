use Rattle.std.proofs.Common.{◌≡◌, ◌+◌, ◌≤◌, drop, take}
use Rattle.chr_faults.specs.Places.{feeds, since}
use Rattle.chr_faults.proofs.place.place_of.Given as goal

abbrev pub invariant-loop-b : goal.invariant-loop-b
invariant-loop-b l = record {
  lines : 1 + feeds (take l.at l.text) ≡ l.line + feeds (drop l.b-index (take l.at l.text));
  columns : since 0 (take l.at l.text) ≡ since l.column (drop l.b-index (take l.at l.text));
  line_bound : l.line ≤ l.b-index + 1;
  column_bound : l.column ≤ l.b-index;
}
