use Rattle.std.proofs.Common.{◌≡◌, ℕ, ◌<◌, get_or}
use Rattle.chr_base.specs.declared.rule.Rule.{Rule}
use Rattle.chr_base.specs.Rules.{HasNoStep}
use Rattle.chr_rewrite.proofs.list.ListPoolPool.step.Given as goal

abbrev pub invariant-loop-rule : goal.invariant-loop-rule
invariant-loop-rule l = record {
  same : l.self ≡ l.fn.self;
  none : (k : ℕ) (d : Rule) → k < l.rule-index → HasNoStep (get_or l.rules k d) l.fn.self;
}
