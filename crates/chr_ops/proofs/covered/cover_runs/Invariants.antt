use Rattle.std.proofs.Common.{◌≡◌, ◌||◌, take}
use Rattle.chr_ops.specs.declared.id.OpId.{OpId}
use Rattle.chr_ops.specs.Summaries.{covers}
use Rattle.chr_ops.specs.working.Covering.{AreAsLongAsPossible, end_ranges}
use Rattle.chr_ops.proofs.covered.cover_runs.Given as goal

abbrev pub invariant-loop-run : goal.invariant-loop-run
invariant-loop-run l = record {
  longest : AreAsLongAsPossible l.ends;
  covering : (q : OpId)
      → covers (end_ranges l.ends) q ≡ (covers (end_ranges l.fn.ends) q || covers (take l.run-index l.runs) q);
}
