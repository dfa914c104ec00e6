-- Replies as JSON values.
use Rattle.std.specs.Prelude.{List, [], ◌∷◌, map, string_bytes, codes}
use Rattle.serde_json.specs.Data.{Data, string}
use Rattle.chr_base.specs.ProgramTests.{Declaration}
use Rattle.chr_base.specs.Stores.{Store}
use Rattle.chr_base.specs.Texts.{in_print_order}
use Rattle.chr_json.specs.Messages.{array_data}
use Rattle.chr_json.specs.Printed.{atoms_data, id_data, natural_data}
use Rattle.chr_exchange.specs.Texts.{spelt_atom}
use Rattle.chr_node_lines.specs.declared.reply.FileSize.{FileSize}
use Rattle.chr_node_lines.specs.declared.reply.LeftFile.{LeftFile}
use Rattle.chr_node_lines.specs.declared.reply.Status.{Status}
use Rattle.chr_node_lines.specs.declared.reply.Reply.{Reply}
use Rattle.chr_node_lines.specs.declared.reply.Reply.TheVariants as reply
use Rattle.chr_node_lines.specs.Refusals.{refusal_number, sentence_of}

-- the atoms of a store in the order in which stores are printed, as they are spelt
abbrev pub store_data : List Declaration → Store → Data
store_data ds s = atoms_data (map (spelt_atom ds) (in_print_order ds s))

abbrev pub file_data : FileSize → Data
file_data f = array_data (string (string_bytes f.name) ∷ natural_data f.size ∷ [])

abbrev pub left_data : LeftFile → Data
left_data f = array_data (string (string_bytes f.name) ∷ string (string_bytes f.cause) ∷ [])

-- ["status",[[name,size],..],[[name,"cause"],..],told,at_rest]
abbrev pub status_data : Status → Data
status_data s =
    array_data
    (string (codes "status") ∷ array_data (map file_data s.feeds.items) ∷ array_data (map left_data s.left.items)
    ∷ natural_data s.told ∷ natural_data s.at_rest ∷ [])

abbrev pub reply_data : List Declaration → Reply → Data
reply_data ds (reply.Told id) = array_data (string (codes "told") ∷ id_data id.origin id.number ∷ [])
reply_data ds (reply.Again id) = array_data (string (codes "again") ∷ id_data id.origin id.number ∷ [])
reply_data ds (reply.Last n) = array_data (string (codes "last") ∷ natural_data n ∷ [])
reply_data ds (reply.Store s) = array_data (string (codes "store") ∷ store_data ds s ∷ [])
reply_data ds (reply.Found s) = array_data (string (codes "found") ∷ store_data ds s ∷ [])
reply_data ds (reply.Count n) = array_data (string (codes "count") ∷ natural_data n ∷ [])
reply_data ds (reply.Changed c) =
    array_data (string (codes "changed") ∷ store_data ds c.came ∷ store_data ds c.went ∷ [])
reply_data ds (reply.Status s) = status_data s
reply_data ds (reply.Refused r) =
    array_data (string (codes "refused") ∷ natural_data (refusal_number r) ∷ string (sentence_of r) ∷ [])
