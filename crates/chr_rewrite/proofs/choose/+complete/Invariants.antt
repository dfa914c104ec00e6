use Rattle.std.proofs.Common.{◌≡◌, length, ◌-◌}
use Rattle.chr_base.specs.Rules.{heads_of}
use Rattle.chr_rewrite.proofs.Searching.{NoneBelow}
use Rattle.chr_rewrite.proofs.choose.+complete.Given as goal

abbrev pub decreases-complete : goal.decreases-complete
decreases-complete l = length (heads_of l.rule.now) - length l.chosen.now.items

abbrev pub invariant-loop-i : goal.invariant-loop-i
invariant-loop-i l = record {
  same : l.chosen.items ≡ l.fn.chosen.items;
  none : NoneBelow l.rule l.items l.fn.chosen.items l.i-counter;
}
