use Rattle.std.proofs.Common.{◌≡◌, ◌∷◌, ◌++◌, drop, flat_map, string_bytes}
use Rattle.serde_json.specs.Written.{compact_text}
use Rattle.chr_base.specs.Programs.{declarations}
use Rattle.chr_json.specs.Messages.{operation_data}
use Rattle.chr_exchange.specs.Texts.{spelt}
use Rattle.chr_exchange.proofs.writing.push_more_operations.Given as goal

abbrev pub invariant-loop-op : goal.invariant-loop-op
invariant-loop-op l =
    string_bytes l.out ++ flat_map (λ o. 44 ∷ compact_text (operation_data (spelt (declarations l.program) o.now)))
    (drop l.op-index l.ops)
    ≡ string_bytes l.fn.out ++ flat_map (λ o. 44 ∷ compact_text (operation_data (spelt (declarations l.program) o.now)))
    l.ops
