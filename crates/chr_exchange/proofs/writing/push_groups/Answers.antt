use Rattle.std.proofs.Common.{arith, string_bytes}
use Rattle.chr_base.specs.Programs.{declarations}
use Rattle.chr_json.specs.Messages.{numbered_data}
use Rattle.chr_exchange.specs.Texts.{spelt}
use Rattle.chr_exchange.proofs.Grouped.{mapped_whole}
use Rattle.chr_exchange.proofs.writing.push_groups.Goals as goal

pub returns : goal.returns
returns c =
    mapped_whole (λ o. o.id.origin) numbered_data (λ o. spelt (declarations c.args.program.now) o.now) c.args.ops.now
    c.loop-op.op-index c.loop-op.last (string_bytes c.args.out.now) (string_bytes c.loop-op.out)
    (string_bytes c.push_closing.new.out)
    (omega arith) c.loop-op.invariant c.in_ok-push_closing.ensures
