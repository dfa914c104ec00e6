use Rattle.std.proofs.Common.{◌≡◌, take}
use Rattle.chr_node_lines.proofs.request.places_of.Given as goal

abbrev pub invariant-loop-value : goal.invariant-loop-value
invariant-loop-value l = l.places.items ≡ take l.value-index l.values
