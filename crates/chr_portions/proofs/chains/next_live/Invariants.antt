use Rattle.std.proofs.Common.{◌≡◌, length}
use Rattle.chr_portions.specs.working.Skips.{record_at}
use Rattle.chr_portions.specs.working.Chains.{AreNext, AreAlike}
use Rattle.chr_portions.proofs.chains.next_live.Given as goal

abbrev pub invariant-loop-at : goal.invariant-loop-at
invariant-loop-at l = record {
  size : length l.records ≡ length l.fn.records;
  alike : AreAlike l.fn.records l.records;
  next : AreNext l.slots l.records (length l.fn.records);
  at : l.at ≡ (record_at l.records l.place).next;
}

abbrev pub decreases-loop-at : goal.decreases-loop-at
decreases-loop-at l = l.at
