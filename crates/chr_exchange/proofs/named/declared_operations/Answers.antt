use Rattle.std.proofs.Common.{◌≡◌, ◌++◌, [], ◌∷◌, rules, sym, ◌∙◌}
use Rattle.chr_base.proofs.Traversals.{front_step}
use Rattle.chr_base.specs.Programs.{declarations}
use Rattle.chr_json.specs.Reads.{raw_op_view}
use Rattle.chr_exchange.specs.Names.{declared_operation}
use Rattle.chr_exchange.proofs.named.declared_operations.Goals as goal

pub loop-raw-preserved : goal.loop-raw-preserved
loop-raw-preserved c =
    let pushed : c.push.new.self.items ≡ c.loop-raw.ops.items ++ c.in-Some.op ∷ [] = search rules in
    rw pushed (sym (front_step (declared_operation (declarations c.args.program.now)) raw_op_view c.args.raws.now
    c.loop-raw.raw-index c.raw-item.result c.in-Some.op c.loop-raw.ops.items c.loop-raw-test.true c.raw-item.is
    (sym (sym c.in-Some.is ∙ c.in_ok-op.ensures))) ∙ c.loop-raw.invariant)
