use Rattle.std.proofs.Common.{◌≡◌, ◌≤◌, take}
use Rattle.chr_confluence.specs.SortLists.{sort_count}
use Rattle.chr_sorting.proofs.combinations.count_of.Given as goal

abbrev pub invariant-loop-class : goal.invariant-loop-class
invariant-loop-class l = record {
  count : l.count ≡ sort_count l.sort (take l.class-index l.classes);
  most : l.count ≤ l.class-index;
}
