use Rattle.std.proofs.Common.{◌≡◌, ◌++◌, map, take}
use Rattle.serde_json.specs.View.{view as data_of}
use Rattle.chr_json.specs.Printed.{argument_data}
use Rattle.chr_node_lines.proofs.reply.push_arguments.Given as goal

abbrev pub invariant-loop-value : goal.invariant-loop-value
invariant-loop-value l =
    map data_of l.parts.items
    ≡ map data_of l.fn.parts.items ++ map argument_data (take l.value-index l.values)
