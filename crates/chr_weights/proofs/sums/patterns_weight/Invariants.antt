use Rattle.std.proofs.Common.{◌≡◌, ◌≤◌, ◌*◌, take}
use Rattle.chr_base.specs.declared.limits.TheConstants.{MAX_WEIGHT}
use Rattle.chr_base.specs.Rules.{Valuation, atoms_at}
use Rattle.chr_base.specs.Weights.{total_weight}
use Rattle.chr_weights.specs.Weights.{weight_in}
use Rattle.chr_weights.proofs.sums.patterns_weight.Given as goal

abbrev pub invariant-loop-pattern : goal.invariant-loop-pattern
invariant-loop-pattern l = record {
  sum : (v : Valuation) → l.sum ≡ total_weight (weight_in l.program) (atoms_at v (take l.pattern-index l.patterns));
  first : l.sum.first ≤ l.pattern-index * MAX_WEIGHT;
  second : l.sum.second ≤ l.pattern-index * MAX_WEIGHT;
}
