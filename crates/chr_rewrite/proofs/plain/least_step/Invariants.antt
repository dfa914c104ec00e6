use Rattle.std.proofs.Common.{ℕ, ◌<◌, get_or}
use Rattle.chr_base.specs.declared.rule.Rule.{Rule}
use Rattle.chr_base.specs.Rules.{HasNoStep}
use Rattle.chr_rewrite.proofs.plain.least_step.Given as goal

abbrev pub invariant-loop-i : goal.invariant-loop-i
invariant-loop-i l = (k : ℕ) (d : Rule) → k < l.i → HasNoStep (get_or l.rules k d) l.bag
