use Rattle.std.proofs.Common.{◌≡◌, ◌++◌, drop, None, string_bytes}
use Rattle.serde_json.specs.Written.{compact_text}
use Rattle.chr_base.specs.Programs.{declarations}
use Rattle.chr_json.specs.Messages.{numbered_data}
use Rattle.chr_exchange.specs.Texts.{spelt}
use Rattle.chr_exchange.specs.working.Groups.{grouped_from}
use Rattle.chr_exchange.proofs.writing.push_groups.Given as goal

abbrev pub invariant-loop-op : goal.invariant-loop-op
invariant-loop-op l =
    string_bytes l.out
    ++ grouped_from (λ o. o.now.0.origin) (λ o. compact_text (numbered_data (spelt (declarations l.program) o.now)))
    l.last (drop l.op-index l.ops)
    ≡ string_bytes l.fn.out
    ++ grouped_from (λ o. o.now.0.origin) (λ o. compact_text (numbered_data (spelt (declarations l.program) o.now)))
    None l.ops
