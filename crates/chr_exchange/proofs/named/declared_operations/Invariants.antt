use Rattle.std.proofs.Common.{◌≡◌, map, drop}
use Rattle.chr_base.specs.Programs.{declarations}
use Rattle.chr_base.specs.Traversals.{each}
use Rattle.chr_base.proofs.Traversals.{front}
use Rattle.chr_json.specs.Reads.{raw_op_view}
use Rattle.chr_exchange.specs.Names.{declared_operation, declared_operations}
use Rattle.chr_exchange.proofs.named.declared_operations.Given as goal

abbrev pub invariant-loop-raw : goal.invariant-loop-raw
invariant-loop-raw l =
    front l.ops.items (each (declared_operation (declarations l.program)) (map raw_op_view (drop l.raw-index l.raws)))
    ≡ declared_operations (declarations l.program) (map raw_op_view l.raws)
