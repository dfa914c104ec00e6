use Rattle.std.proofs.Common.{rules}
use Rattle.chr_plans.specs.Joined.{IsLocal}
use Rattle.chr_columns.proofs.Local.{all_local}
use Rattle.chr_columns.proofs.joint.+are_local.Goals as goal

pub returns : goal.returns
returns t c =
    let first : IsLocal c.args.columns.now c.rule-item.result = search rules in
    all_local c.args.columns.now c.args.rules.now c.rule-item.result c.are_local.result c.in-len1-up.len_at_least
    c.rule-item.is first c.are_local.ensures
