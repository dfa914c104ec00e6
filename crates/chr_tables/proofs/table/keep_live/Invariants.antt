use Rattle.std.proofs.Common.{◌≡◌, ◌≤◌, length}
use Rattle.chr_tables.specs.working.Indexes.{chosen}
use Rattle.chr_tables.proofs.Compacting.{AreKept}
use Rattle.chr_tables.proofs.table.keep_live.Given as goal

abbrev pub invariant-loop-row : goal.invariant-loop-row
invariant-loop-row l = record {
  few : l.count ≤ l.row;
  len : length l.atoms ≡ length l.fn.atoms;
  kept : AreKept l.atoms l.alive l.count l.row (chosen l.fn.atoms l.alive);
}
