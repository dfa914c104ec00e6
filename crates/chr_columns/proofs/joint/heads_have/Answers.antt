use Rattle.std.proofs.Common.{rules, All}
use Rattle.chr_plans.specs.Joined.{HasThere}
use Rattle.chr_columns.proofs.Local.{on_heads}
use Rattle.chr_columns.proofs.joint.heads_have.Goals as goal

pub returns : goal.returns
returns c =
    let kept : All (HasThere c.args.columns.now c.args.variable) c.args.rule.now.kept.items = search rules in
    on_heads c.args.columns.now c.args.variable c.args.rule.now c.all_have-2.result kept (search rules)
