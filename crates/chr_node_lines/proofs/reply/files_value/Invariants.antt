use Rattle.std.proofs.Common.{◌≡◌, map, take}
use Rattle.serde_json.specs.View.{view as data_of}
use Rattle.chr_node_lines.specs.Replies.{file_data}
use Rattle.chr_node_lines.proofs.reply.files_value.Given as goal

abbrev pub invariant-loop-file : goal.invariant-loop-file
invariant-loop-file l = map data_of l.items.items ≡ map file_data (take l.file-index l.files)
