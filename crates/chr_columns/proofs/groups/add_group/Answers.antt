use Rattle.std.proofs.Common.{◌≡◌, length, sym, subst, ◌∙◌, arith}
use Rattle.std.specs.Prelude.{List}
use Rattle.chr_columns.specs.declared.groups.Group.{Group}
use Rattle.chr_columns.specs.working.Groups.{table_of, table_of_pattern, IsGrouped, StayGrouped, HaveNoPlans}
use Rattle.chr_columns.proofs.Finding.{table_of_most}
use Rattle.chr_columns.proofs.Grouping.{groups_stay, group_here, no_plans_more}
use Rattle.chr_columns.proofs.groups.add_group.Goals as goal

pub returns-in_ok-push-clause-grouped : goal.returns-in_ok-push-clause-grouped
returns-in_ok-push-clause-grouped c =
    subst (λ (gs : List Group). IsGrouped gs c.args.pattern.now) (sym c.in_ok-push.ensures.items)
    (group_here c.args.groups.now.items _ c.args.pattern.now
    (λ i. c.args.pattern.now.symbol) c.len-arity.ensures.value)

pub returns-in_ok-push-clause-stay : goal.returns-in_ok-push-clause-stay
returns-in_ok-push-clause-stay c = subst (λ (gs : List Group). StayGrouped c.args.groups.now.items gs)
    (sym c.in_ok-push.ensures.items) (groups_stay c.args.groups.now.items _)

pub returns-in_ok-push-clause-no_plans : goal.returns-in_ok-push-clause-no_plans
returns-in_ok-push-clause-no_plans c none = subst HaveNoPlans (sym c.in_ok-push.ensures.items)
    (no_plans_more c.args.groups.now.items _ c.new.ensures.items none)

pub returns-else-table_of-len-clause-grouped : goal.returns-else-table_of-len-clause-grouped
returns-else-table_of-len-clause-grouped c =
    let p = c.args.pattern.now in
    let e : c.table_of.result ≡ table_of_pattern c.args.groups.now.items p = c.table_of.ensures
    ∙ (λ i. table_of (c.deref.ensures.value i) p.symbol (c.len-arity.ensures.value i)) in
    let m = table_of_most c.args.groups.now.items p.symbol (length p.args.items) in
    let n = c.args.groups.now.ok.0 in
    let other = c.if-table_of-len.false in
    omega (arith, e, m, n, c.len.ensures, other)
