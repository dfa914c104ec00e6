use Rattle.std.proofs.Common.{◌≡◌, ◌≤◌, ◌++◌, length, map, take}
use Rattle.std.specs.List.{flat_map}
use Rattle.chr_sorting.proofs.Choices.{next_lists}
use Rattle.chr_sorting.proofs.lists.+add_lists.Given as goal

abbrev pub decreases-add_lists : goal.decreases-add_lists
decreases-add_lists l = l.left

abbrev pub invariant-loop-value : goal.invariant-loop-value
invariant-loop-value l = record {
  lists : map (λ x. x.items) l.found.items ≡ map (λ x. x.items) l.initial.found.items
      ++ flat_map (next_lists l.left l.choices l.numbers l.begun) (take l.value-index l.value-items);
  within : length l.initial.found.items ≤ l.limit → length l.found.items ≤ l.limit;
}
