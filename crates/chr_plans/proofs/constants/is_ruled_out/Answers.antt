use Rattle.std.proofs.Common.{rules, ◌≡◌, subst}
use Rattle.std.specs.Bool.{OnFalse}
use Rattle.chr_plans.specs.Plans.{pattern_at}
use Rattle.chr_plans.proofs.RuledOut.{Differ, no_partners}
use Rattle.chr_plans.proofs.constants.is_ruled_out.Goals as goal

pub returns-then-plan : goal.returns-then-plan
returns-then-plan c =
    let r = c.args.rule.now in
    let p = c.args.plan.now.place in
    let a = c.args.active.now in
    let terms : c.deref.result.now ≡ (pattern_at r p).args.items = search rules in
    let values : c.deref-then-plan.result.now ≡ a.args.items = search rules in
    no_partners r p a c.may_have_all.result
    (subst (λ ts. OnFalse c.may_have_all.result (Differ ts a.args.items)) terms
    (subst (λ xs. OnFalse c.may_have_all.result (Differ c.deref.result.now xs)) values c.may_have_all.ensures))
