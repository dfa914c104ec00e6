use Rattle.std.proofs.Common.{rules, All}
use Rattle.chr_base.specs.Rules.{heads_of}
use Rattle.chr_plans.specs.Joined.{HasThere}
use Rattle.chr_columns.proofs.Local.{on_body}
use Rattle.chr_columns.proofs.joint.is_local.Goals as goal

pub returns : goal.returns
returns c =
    let heads : All (HasThere c.args.columns.now c.in-Some.variable) (heads_of c.args.rule.now) = search rules in
    on_body c.args.columns.now c.in-Some.variable c.args.rule.now c.all_have.result heads (search rules)
