use Rattle.std.proofs.Common.{◌≡◌, length}
use Rattle.chr_plans.proofs.search.fit.Given as goal

abbrev pub invariant-loop : goal.invariant-loop
invariant-loop g l = length l.items.items ≡ l.counter
