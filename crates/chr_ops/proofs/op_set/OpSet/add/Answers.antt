use Rattle.std.proofs.Common.{rules, ap, ◌∙◌, ◌≡◌, None}
use Rattle.std.specs.FinMap as map
use Rattle.chr_ops.specs.Operations.{told_store}
use Rattle.chr_ops.proofs.Told.{told_store-insert}
use Rattle.chr_ops.proofs.op_set.OpSet.add.Goals as goal

pub returns-clause-told : goal.returns-clause-told
returns-clause-told c = λ e.
    let added : c.add_new.new.self ≡ map.insert c.args.self.now c.args.op.0 c.args.op.1 = search (rules, e) in
    let new : map.get c.args.self.now c.args.op.0 ≡ None = search rules in
    ap told_store added ∙ told_store-insert c.args.self.now c.args.op.0 c.args.op.1 new
