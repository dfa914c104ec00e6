use Rattle.std.proofs.Common.{◌≤◌, ◌+◌, ◌-◌, length}
use Rattle.chr_sorting.specs.working.Numbers.{AreNumbersBelow}
use Rattle.chr_sorting.proofs.lists.first_numbers.Given as goal

abbrev pub invariant-loop-number : goal.invariant-loop-number
invariant-loop-number l = record {
  found : AreNumbersBelow l.constants l.passed l.numbers.items l.number;
  within : length l.numbers.items ≤ l.count;
}

abbrev pub decreases-loop-number : goal.decreases-loop-number
decreases-loop-number l = (length l.constants - l.passed) + (l.count - length l.numbers.items)
