use Rattle.std.proofs.Common.{All, subst}
use Rattle.std.specs.Bool.{OnTrue}
use Rattle.chr_plans.specs.Joined.{IsLocal}
use Rattle.chr_columns.proofs.joint.Joint.keeps_values.Goals as goal

pub returns : goal.returns
returns c =
    subst (λ columns. OnTrue c.are_local.result (All (IsLocal columns) c.args.rules.now)) c.deref.ensures.0
    c.are_local.ensures
