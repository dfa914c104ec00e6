use Rattle.std.proofs.Common.{subst}
use Rattle.chr_types.specs.Representatives.{AreTypes}
use Rattle.chr_weights.specs.WeighedPrograms.{rules_in}
use Rattle.chr_overlaps.proofs.UnifiedOverlaps.{unified_has}
use Rattle.chr_join.specs.declared.coverage.Coverage.TheVariants.{Joint}
use Rattle.chr_join.specs.working.Visits.{Setting}
use Rattle.chr_join.proofs.Visits.{classes_fit, may_check, seen_types, joint_cases, are_joint_cases, same_joint_cases}
use Rattle.chr_join.proofs.Visits.{joint_values, told_joins, told_fails}
use Rattle.chr_join.proofs.joint.check_cases.Goals as goal

pub new-checker-requires-clause-unified : goal.new-checker-requires-clause-unified
new-checker-requires-clause-unified c = unified_has (rules_in c.args.weighed.now) c.args.overlap.now c.args.unified.now
    c.requires.unified

pub visit_types-requires-clause-few : goal.visit_types-requires-clause-few
visit_types-requires-clause-few c = classes_fit c.free_classes-classes.result _ c.args.constants.now
    c.free_classes-classes.ensures c.requires.few

pub visit_types-requires-clause-ready : goal.visit_types-requires-clause-ready
visit_types-requires-clause-ready c =
    let s : Setting = record {
      weighed = c.args.weighed.now;
      overlap = c.args.overlap.now;
      unified =
          c.args.unified.now;
    } in
    may_check c.new-checker.result s c.new-checker.ensures.setting c.requires.overlap
    (unified_has (rules_in s.weighed) s.overlap s.unified c.requires.unified)
    (joint_values c.listed_cases.ensures.cases s c.requires.overlap c.requires.unified) c.new-checker.ensures.equal
    c.new-checker.ensures.ends

pub returns-clause-ok : goal.returns-clause-ok
returns-clause-ok c =
    let s : Setting = record {
      weighed = c.args.weighed.now;
      overlap = c.args.overlap.now;
      unified =
          c.args.unified.now;
    } in
    let u = c.requires.unified in
    let v = c.in_ok-stopped.ensures.visited in
    let types = subst (λ n. AreTypes n c.args.constants.now v.0) c.free_classes-classes.ensures v.1 in
    told_joins Joint s u.rule1 u.rule2 u.are_rules (seen_types s c.args.constants.now v.0 u c.requires.constants types
    c.requires.few) (joint_cases s c.args.constants.now v.0 u c.requires.constants types c.requires.few)
    (are_joint_cases s c.args.constants.now v.0 u c.requires.constants types c.requires.few)
    (same_joint_cases s c.args.constants.now v.0 u c.requires.constants types c.requires.few)
    c.new-checker.result c.visit_types.new.visitor c.in_ok-stopped.stopped c.told.result c.new-checker.ensures.setting
    c.new-checker.ensures.passed v.2 c.told.ensures.passed

pub returns-clause-err : goal.returns-clause-err
returns-clause-err c =
    let s : Setting = record {
      weighed = c.args.weighed.now;
      overlap = c.args.overlap.now;
      unified =
          c.args.unified.now;
    } in
    let u = c.requires.unified in
    let v = c.in_ok-stopped.ensures.visited in
    let types = subst (λ n. AreTypes n c.args.constants.now v.0) c.free_classes-classes.ensures v.1 in
    told_fails Joint s u.rule1 u.rule2 u.are_rules (seen_types s c.args.constants.now v.0 u c.requires.constants types
    c.requires.few) (joint_cases s c.args.constants.now v.0 u c.requires.constants types c.requires.few)
    (are_joint_cases s c.args.constants.now v.0 u c.requires.constants types c.requires.few)
    (same_joint_cases s c.args.constants.now v.0 u c.requires.constants types c.requires.few)
    c.new-checker.result c.visit_types.new.visitor c.in_ok-stopped.stopped c.told.result c.new-checker.ensures.setting
    v.2 c.told.ensures.failing
