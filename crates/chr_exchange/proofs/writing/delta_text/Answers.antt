use Rattle.std.proofs.Common.{map, string_bytes, rules}
use Rattle.std.specs.FinMap as finite
use Rattle.chr_base.specs.Programs.{declarations}
use Rattle.chr_ops.specs.Operations.{operations_of}
use Rattle.chr_exchange.specs.Texts.{spelt}
use Rattle.chr_exchange.proofs.Deltas.{spelt_lent, delta_2_written}
use Rattle.chr_exchange.proofs.writing.delta_text.Goals as goal

pub returns : goal.returns
returns c =
    let ds = declarations c.args.program.now in
    let sorted = c.in_ok-sorted.sorted.items in
    let entries = finite.entries (operations_of c.args.ops.now) in
    delta_2_written (map (spelt ds) entries) (map (λ o. spelt ds o.now) sorted) (string_bytes c.new-out.result)
    (string_bytes c.push_str.new.self) (string_bytes c.push_groups.new.out) (string_bytes c.push_str-2.new.self)
    (spelt_lent ds sorted entries c.in_ok-sorted.ensures) c.new-out.ensures.bytes (search rules)
    (rw c.deref.ensures.value at c.in_ok-push_groups.ensures) (search rules)
