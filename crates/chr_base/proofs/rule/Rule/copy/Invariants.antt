use Rattle.std.proofs.Common.{◌≡◌, take}
use Rattle.chr_base.proofs.rule.Rule.copy.Given as goal

abbrev pub invariant-loop-comparison : goal.invariant-loop-comparison
invariant-loop-comparison l = l.guard.items ≡ take l.comparison-index l.comparison-items
