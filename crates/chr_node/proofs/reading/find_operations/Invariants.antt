use Rattle.std.proofs.Common.{◌≡◌, ◌++◌, drop}
use Rattle.chr_base.specs.Programs.{declarations}
use Rattle.chr_records.specs.Records.{texts_in}
use Rattle.chr_node_laws.specs.Folders.{told_by}
use Rattle.chr_node_records.specs.Texts.{operations_in}
use Rattle.chr_node.proofs.reading.find_operations.Given as goal

abbrev pub invariant-loop-text : goal.invariant-loop-text
invariant-loop-text l =
    l.ops.items ++ told_by (operations_in (declarations l.program)) (texts_in (drop l.text-index l.texts))
    ≡ told_by (operations_in (declarations l.program)) (texts_in l.texts)
