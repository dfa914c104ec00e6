use Rattle.std.proofs.Common.{◌≡◌, ℕ, List, ◌++◌, ◌∙◌, ap, rules, string_bytes}
use Rattle.chr_base.specs.Programs.{declarations}
use Rattle.chr_ops.specs.Operations.{Operation, operations_of}
use Rattle.chr_records.specs.Records.{record_bytes, IsText}
use Rattle.chr_exchange.specs.Texts.{delta_text}
use Rattle.chr_node_records.specs.Texts.{operation_text}
use Rattle.chr_node_records.proofs.Reading.{one_differs, pushed, pushed_whole}
use Rattle.chr_node_records.proofs.record.push_operation.Goals as goal

pub delta_text-requires : goal.delta_text-requires
delta_text-requires c = one_differs c.args.op.now c.from_ref.result.now c.from_ref.ensures.value

pub returns-clause-bytes : goal.returns-clause-bytes
returns-clause-bytes c =
    let ds = declarations c.args.program.now in
    let written : c.as_bytes-2.result.now ≡ delta_text ds (operations_of c.from_ref.result.now) =
    c.as_bytes-2.ensures.value ∙ c.in_ok-message.ensures in
    pushed ds c.args.op.now c.from_ref.result.now c.as_bytes-2.result.now c.new-record.result.items
    c.push_message.new.bytes.items c.args.bytes.now.items c.extend_from_slice.new.self.items c.from_ref.ensures.value
    written c.new-record.ensures.items c.in_ok-push_message.ensures.bytes
    (c.in_ok-extend_from_slice.ensures.items
    ∙ ap (λ (l : List ℕ). c.args.bytes.now.items ++ l) c.deref.ensures.value)

pub returns-clause-whole : goal.returns-clause-whole
returns-clause-whole c =
    let ds = declarations c.args.program.now in
    let written : c.as_bytes-2.result.now ≡ delta_text ds (operations_of c.from_ref.result.now) =
    c.as_bytes-2.ensures.value ∙ c.in_ok-message.ensures in
    let more : c.extend_from_slice.new.self.items
    ≡ c.args.bytes.now.items ++ record_bytes (operation_text ds c.args.op.now) =
    pushed ds c.args.op.now c.from_ref.result.now c.as_bytes-2.result.now c.new-record.result.items
    c.push_message.new.bytes.items c.args.bytes.now.items c.extend_from_slice.new.self.items c.from_ref.ensures.value
    written c.new-record.ensures.items c.in_ok-push_message.ensures.bytes
    (c.in_ok-extend_from_slice.ensures.items
    ∙ ap (λ (l : List ℕ). c.args.bytes.now.items ++ l) c.deref.ensures.value) in
    let text : IsText c.as_bytes.result.now = search rules in
    let text_2 : IsText c.as_bytes-2.result.now = search rules in
    pushed_whole ds c.args.op.now c.from_ref.result.now c.as_bytes-2.result.now c.args.bytes.now.items
    c.extend_from_slice.new.self.items c.from_ref.ensures.value written text_2 more
