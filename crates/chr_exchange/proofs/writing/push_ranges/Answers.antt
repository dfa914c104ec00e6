use Rattle.std.proofs.Common.{arith, string_bytes}
use Rattle.chr_json.specs.Messages.{range_data}
use Rattle.chr_exchange.proofs.Grouped.{grouped_whole}
use Rattle.chr_exchange.proofs.writing.push_ranges.Goals as goal

pub returns : goal.returns
returns c =
    grouped_whole (λ r. r.origin) range_data c.args.ranges.now c.loop-range.range-index c.loop-range.last
    (string_bytes c.args.out.now) (string_bytes c.loop-range.out) (string_bytes c.push_closing.new.out)
    (omega arith) c.loop-range.invariant c.in_ok-push_closing.ensures
