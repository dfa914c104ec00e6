use Rattle.std.proofs.Common.{◌≡◌, length}
use Rattle.chr_portions.specs.working.Chains.{IsNewest, AreHeads}
use Rattle.chr_portions.proofs.chains.first_live.Given as goal

abbrev pub invariant-loop-at : goal.invariant-loop-at
invariant-loop-at l = record {
  size : length l.heads ≡ length l.fn.heads;
  heads : AreHeads l.records l.heads (length l.records);
  newest : IsNewest (length l.fn.heads) l.records (length l.records) l.slot l.at;
}

abbrev pub decreases-loop-at : goal.decreases-loop-at
decreases-loop-at l = l.at
