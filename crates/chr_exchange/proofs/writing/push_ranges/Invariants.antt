use Rattle.std.proofs.Common.{◌≡◌, ◌++◌, drop, None, string_bytes}
use Rattle.serde_json.specs.Written.{compact_text}
use Rattle.chr_json.specs.Messages.{range_data}
use Rattle.chr_exchange.specs.working.Groups.{grouped_from}
use Rattle.chr_exchange.proofs.writing.push_ranges.Given as goal

abbrev pub invariant-loop-range : goal.invariant-loop-range
invariant-loop-range l =
    string_bytes l.out ++ grouped_from (λ r. r.origin) (λ r. compact_text (range_data r)) l.last
    (drop l.range-index l.ranges)
    ≡ string_bytes l.fn.out ++ grouped_from (λ r. r.origin) (λ r. compact_text (range_data r)) None l.ranges
