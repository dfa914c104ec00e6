use Rattle.std.proofs.Common.{ℕ, ◌<◌, ◌≤◌}
use Rattle.chr_weighing.specs.declared.cycle.Side.TheVariants.{Removed, Body}
use Rattle.chr_weighing.specs.Cycles.{total_of}
use Rattle.chr_weighing.proofs.cycle.are_given_back.Given as goal

abbrev pub invariant-loop-symbol : goal.invariant-loop-symbol
invariant-loop-symbol l = (s : ℕ) → s < l.symbol → total_of Removed s l.rules l.times ≤ total_of Body s l.rules l.times
