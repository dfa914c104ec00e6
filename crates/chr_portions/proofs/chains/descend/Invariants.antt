use Rattle.std.proofs.Common.{ℕ, ◌≤◌}
use Rattle.chr_portions.specs.working.Chains.{IsNewest}
use Rattle.chr_portions.proofs.chains.descend.Given as goal

abbrev pub invariant-loop-at : goal.invariant-loop-at
invariant-loop-at l =
    (above : ℕ) × (l.bound ≤ above) × (l.at ≤ l.from) × IsNewest l.slots l.records above l.slot l.at

abbrev pub decreases-loop-at : goal.decreases-loop-at
decreases-loop-at l = l.at
