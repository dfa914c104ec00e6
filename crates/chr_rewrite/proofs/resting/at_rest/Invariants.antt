use Rattle.std.proofs.Common.{ℕ, ◌<◌, get_or}
use Rattle.chr_base.specs.declared.rule.Rule.{Rule}
use Rattle.chr_base.specs.Programs.{rules_of}
use Rattle.chr_weights.specs.WeighedPrograms.{program_of}
use Rattle.chr_base.specs.Rules.{HasNoStep}
use Rattle.chr_rewrite.proofs.resting.at_rest.Given as goal

abbrev pub invariant-loop-rule : goal.invariant-loop-rule
invariant-loop-rule g l = (k : ℕ) (d : Rule) → k < l.rule-index
    → HasNoStep (get_or (rules_of (program_of l.weighed)) k d) (g.P.Pool.contents l.pool)
