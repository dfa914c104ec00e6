use Rattle.std.proofs.Common.{ℕ, pos, ◌<◌, get_or}
use Rattle.chr_types.specs.OrderTypes.{IsValue}
use Rattle.chr_sorting.proofs.lists.are_values.Given as goal

abbrev pub invariant-loop-number : goal.invariant-loop-number
invariant-loop-number l = (k : ℕ) → k < l.number-index → IsValue (get_or l.numbers k (pos 0))
