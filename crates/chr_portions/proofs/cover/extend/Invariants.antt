use Rattle.std.proofs.Common.{◌≡◌, length}
use Rattle.chr_portions.specs.working.Skips.{AreSkips}
use Rattle.chr_portions.proofs.cover.extend.Given as goal

abbrev pub invariant-loop-block : goal.invariant-loop-block
invariant-loop-block l = record {
  size : length l.skips.items ≡ l.block;
  linked : AreSkips l.records l.skips.items (length l.skips.items);
}
