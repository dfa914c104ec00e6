use Rattle.std.proofs.Common.{◌++◌, map, ap, ◌∙◌}
use Rattle.std.specs.FinMap as finite
use Rattle.serde_json.specs.Written.{compact_text}
use Rattle.chr_base.specs.Programs.{declarations}
use Rattle.chr_json.specs.Messages.{delta_1_data}
use Rattle.chr_ops.specs.Operations.{operations_of}
use Rattle.chr_exchange.specs.Texts.{spelt}
use Rattle.chr_exchange.proofs.Deltas.{spelt_lent}
use Rattle.chr_exchange.proofs.writing.delta_text_1.Goals as goal

pub returns : goal.returns
returns c =
    let ds = declarations c.args.program.now in
    let sorted = c.in_ok-sorted.sorted.items in
    (rw c.deref.ensures.value at c.in_ok-push_operations.ensures)
    ∙ ap (λ l. l ++ compact_text (delta_1_data (map (λ o. spelt ds o.now) sorted))) c.new-out.ensures.bytes
    ∙ ap (λ l. compact_text (delta_1_data l)) (spelt_lent ds sorted (finite.entries (operations_of c.args.ops.now))
    c.in_ok-sorted.ensures)
