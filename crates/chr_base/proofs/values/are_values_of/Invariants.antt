use Rattle.std.proofs.Common.{◌≡◌, true, take}
use Rattle.std.specs.List.{list_all}
use Rattle.chr_base.specs.Values.{is_value, args_in}
use Rattle.chr_base.proofs.values.are_values_of.Given as goal

abbrev pub invariant-loop-atom : goal.invariant-loop-atom
invariant-loop-atom l = list_all (args_in is_value) (take l.atom-index l.atoms) ≡ true
