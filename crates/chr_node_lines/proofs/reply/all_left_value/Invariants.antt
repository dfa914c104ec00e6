use Rattle.std.proofs.Common.{◌≡◌, map, take}
use Rattle.serde_json.specs.View.{view as data_of}
use Rattle.chr_node_lines.specs.Replies.{left_data}
use Rattle.chr_node_lines.proofs.reply.all_left_value.Given as goal

abbrev pub invariant-loop-file : goal.invariant-loop-file
invariant-loop-file l = map data_of l.items.items ≡ map left_data (take l.file-index l.files)
