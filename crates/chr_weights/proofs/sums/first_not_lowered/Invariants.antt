use Rattle.std.proofs.Common.{◌≡◌, ℕ, ◌<◌}
use Rattle.std.specs.Prelude.{slice_get, Some}
use Rattle.chr_base.specs.declared.rule.Rule.{Rule}
use Rattle.chr_base.specs.Programs.{rules_of}
use Rattle.chr_weights.specs.Weights.{IsLowering, weight_in}
use Rattle.chr_weights.proofs.sums.first_not_lowered.Given as goal

abbrev pub invariant-loop-i : goal.invariant-loop-i
invariant-loop-i l = (k : ℕ) (r : Rule) → k < l.i → slice_get (rules_of l.program) k ≡ Some r
    → IsLowering (weight_in l.program) r
