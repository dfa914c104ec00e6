use Rattle.std.proofs.Common.{◌≡◌, ◌<◌, length, slice_get, refl, sym, ap, subst, ◌∙◌, arith}
use Rattle.chr_plans.specs.Plans.{IsPlan, partners_of, pattern_at}
use Rattle.chr_columns.specs.working.Groups.{table_of, table_of_pattern}
use Rattle.chr_columns.specs.working.Making.{columns_in, KeepPlans}
use Rattle.chr_columns.specs.working.Resting.{IsPlanned}
use Rattle.chr_columns.proofs.Planned.{have_alike, keep_same, plan_keeps, plan_there, planned_more, same_table}
use Rattle.chr_columns.proofs.making.add_plan.Goals as goal

table_is : (c : goal.In_ok-push) → c.table_of-table.result ≡ table_of_pattern c.args.groups.now
    (pattern_at c.args.rule.now c.args.place)
table_is c =
    let e = c.head_at-pattern.ensures in
    c.table_of-table.ensures ∙ (λ i. table_of c.args.groups.now c.head_at-pattern.result.now.symbol
    (c.len.ensures.value i)) ∙ ap (table_of_pattern c.args.groups.now) e

within : (c : goal.In_ok-push) → c.table_of-table.result < length c.args.groups.now
within c = let e = table_is c in let l = c.requires.grouped in omega (arith, e, l)

pub returns-clause-keep : goal.returns-clause-keep
returns-clause-keep c = plan_keeps c.args.groups.now c.table_of-table.result c.index-groups-table.result _
    c.in_ok-plan.plan (within c) refl refl c.in_ok-push.ensures.items

pub returns-clause-planned : goal.returns-clause-planned
returns-clause-planned c rules at are =
    let p = c.in_ok-plan.plan in
    let new : IsPlanned rules c.args.groups.now (columns_in c.plan_for.new.keys.items) p = (
      c.args.rule.now,
      ap (slice_get rules) c.in_ok-plan.ensures.rule ∙ at,
      let e = c.in_ok-plan.ensures.place in let l = c.requires.place in omega (arith, e, l),
      subst (λ q. IsPlan c.args.rule.now q (partners_of p.lookups.items))
          (sym c.in_ok-plan.ensures.place) c.in_ok-plan.ensures.plan,
      c.in_ok-plan.ensures.indexed,
    ) in
    planned_more c.args.groups.now c.table_of-table.result c.index-groups-table.result _ p
    (within c) refl refl c.in_ok-push.ensures.items rules
    (columns_in c.args.keys.now.items) (columns_in c.plan_for.new.keys.items) c.plan_for.ensures.grows new are

pub returns-clause-plan : goal.returns-clause-plan
returns-clause-plan c =
    let p = c.in_ok-plan.plan in
    let h = plan_there c.args.groups.now c.table_of-table.result c.index-groups-table.result _ p
    (within c) refl refl c.in_ok-push.ensures.items c.args.rule.now in
    let keep : KeepPlans c.args.groups.now _ = plan_keeps c.args.groups.now c.table_of-table.result
    c.index-groups-table.result _ p (within c) refl refl c.in_ok-push.ensures.items in (
      h.0,
      h.1,
      h.2,
      ap (slice_get _) (same_table _ c.args.groups.now (pattern_at c.args.rule.now c.args.place) keep.shapes
          ∙ sym (table_is c)) ∙ h.3,
      h.4,
      h.5 ∙ c.in_ok-plan.ensures.rule,
      ap (pattern_at c.args.rule.now) (sym c.in_ok-plan.ensures.place) ∙ h.6,
    )

pub returns-then-is_read_again-clause-keep : goal.returns-then-is_read_again-clause-keep
returns-then-is_read_again-clause-keep c = keep_same c.args.groups.now

pub returns-then-is_read_again-clause-plan : goal.returns-then-is_read_again-clause-plan
returns-then-is_read_again-clause-plan c =
    let w = c.if-is_read_again.ensures in
    have_alike c.args.groups.now c.args.number c.args.rule.now c.args.place w.0 w.3
    (c.requires.later w.0 (let l = w.1 in omega (arith, l)) w.2)
