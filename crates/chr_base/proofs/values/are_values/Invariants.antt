use Rattle.std.proofs.Common.{◌≡◌, true, take}
use Rattle.std.specs.List.{list_all}
use Rattle.chr_base.specs.Values.{is_value}
use Rattle.chr_base.proofs.values.are_values.Given as goal

abbrev pub invariant-loop-x : goal.invariant-loop-x
invariant-loop-x l = list_all is_value (take l.x-index l.xs) ≡ true
