use Rattle.std.proofs.Common.{◌≡◌, ◌+◌, ◌-◌, subst, arith}
use Rattle.chr_plans.specs.Plans.{pattern_at}
use Rattle.chr_columns.specs.working.Resting.{HavePlans}
use Rattle.chr_columns.proofs.Planned.{grouped_same, keep_all, have_kept, have_more}
use Rattle.chr_columns.proofs.making.add_plans.Goals as goal

pub add_plan-requires-clause-grouped : goal.add_plan-requires-clause-grouped
add_plan-requires-clause-grouped c =
    let place = c.loop-place.place - 1 in
    let n = c.places-place.ensures.places in
    let l = c.loop-place-test.true in
    let m = c.loop-place.auto.place in
    grouped_same _ _ (pattern_at c.args.rule.now place) c.loop-place.invariant.keep.shapes
    (c.requires.grouped place (omega (arith, n, l, m)))

pub add_plan-requires-clause-later : goal.add_plan-requires-clause-later
add_plan-requires-clause-later c =
    let l = c.loop-place-test.true in
    let next : c.loop-place.place ≡ c.loop-place.place - 1 + 1 = omega (arith, l) in
    subst (HavePlans _ c.args.number c.args.rule.now) next c.loop-place.invariant.plans

pub loop-place-preserved : goal.loop-place-preserved
loop-place-preserved c =
    let i = c.args.number in
    let r = c.args.rule.now in
    let groups = c.add_plan.new.groups in
    let place = c.loop-place.place - 1 in
    let l = c.loop-place-test.true in
    let next : c.loop-place.place ≡ place + 1 = omega (arith, l) in
    let before = have_kept _ groups i r c.loop-place.place c.in_ok-add_plan.ensures.keep c.loop-place.invariant.plans in
    record {
      tables = c.add_plan.ensures.tables;
      keep = keep_all _ _ _ c.loop-place.invariant.keep c.in_ok-add_plan.ensures.keep;
      planned = λ rules at are. (c.in_ok-add_plan.ensures.planned rules at
          (c.loop-place.invariant.planned rules at are));
      plans = have_more groups i r place (subst (λ n. HavePlans groups i r n) next before)
          c.in_ok-add_plan.ensures.plan;
    }

pub returns-clause-plans : goal.returns-clause-plans
returns-clause-plans c p l k = c.loop-place.invariant.plans p (let m = c.loop-place-test.false in omega (arith, l, m)) k
