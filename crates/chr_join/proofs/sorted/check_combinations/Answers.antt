use Rattle.std.proofs.Common.{refl, subst}
use Rattle.chr_weights.specs.WeighedPrograms.{rules_in}
use Rattle.chr_overlaps.proofs.UnifiedOverlaps.{sorted_unified_has}
use Rattle.chr_sorting.specs.FinestSorts.{sorts_of}
use Rattle.chr_sorting.specs.SortedCaseLists.{AreCombinations}
use Rattle.chr_join.specs.declared.coverage.Coverage.TheVariants.{Sorted}
use Rattle.chr_join.specs.working.Visits.{Setting}
use Rattle.chr_join.proofs.Visits.{may_check, few_combinations, sorted_cases, are_sorted_cases, sorted_values}
use Rattle.chr_join.proofs.Visits.{told_joins, told_fails}
use Rattle.chr_join.proofs.sorted.check_combinations.Goals as goal

pub new-checker-requires-clause-unified : goal.new-checker-requires-clause-unified
new-checker-requires-clause-unified c = sorted_unified_has (rules_in c.args.weighed.now) c.args.overlap.now
    c.args.unified.now c.requires.unified

pub visit_combinations-requires-clause-ready : goal.visit_combinations-requires-clause-ready
visit_combinations-requires-clause-ready c =
    let s : Setting = record {
      weighed = c.args.weighed.now;
      overlap = c.args.overlap.now;
      unified =
          c.args.unified.now;
    } in
    may_check c.new-checker.result s c.new-checker.ensures.setting c.requires.overlap
    (sorted_unified_has (rules_in s.weighed) s.overlap s.unified c.requires.unified)
    (sorted_values c.sorted_cases.ensures.cases s c.requires.overlap c.requires.unified) c.new-checker.ensures.equal
    c.new-checker.ensures.ends

pub returns-clause-ok : goal.returns-clause-ok
returns-clause-ok c =
    let s : Setting = record {
      weighed = c.args.weighed.now;
      overlap = c.args.overlap.now;
      unified =
          c.args.unified.now;
    } in
    let u = c.requires.unified in
    let o = sorts_of c.args.sorting.now in
    let v = c.in_ok-stopped.ensures.visited in
    let all = subst (λ ks. AreCombinations o ks v.0) (c.requires.sorts u.rule1 u.rule2 u.are_rules) v.1 in
    let within = few_combinations o c.args.sorts.now v.0 v.1 c.requires.few in
    told_joins Sorted s u.rule1 u.rule2 u.are_rules v.0 (sorted_cases o s v.0 u c.requires.finest all within)
    (are_sorted_cases o s v.0 u c.requires.finest all within) refl
    c.new-checker.result c.visit_combinations.new.visitor c.in_ok-stopped.stopped c.told.result
    c.new-checker.ensures.setting c.new-checker.ensures.passed v.2 c.told.ensures.passed

pub returns-clause-err : goal.returns-clause-err
returns-clause-err c =
    let s : Setting = record {
      weighed = c.args.weighed.now;
      overlap = c.args.overlap.now;
      unified =
          c.args.unified.now;
    } in
    let u = c.requires.unified in
    let o = sorts_of c.args.sorting.now in
    let v = c.in_ok-stopped.ensures.visited in
    let all = subst (λ ks. AreCombinations o ks v.0) (c.requires.sorts u.rule1 u.rule2 u.are_rules) v.1 in
    let within = few_combinations o c.args.sorts.now v.0 v.1 c.requires.few in
    told_fails Sorted s u.rule1 u.rule2 u.are_rules v.0 (sorted_cases o s v.0 u c.requires.finest all within)
    (are_sorted_cases o s v.0 u c.requires.finest all within) refl
    c.new-checker.result c.visit_combinations.new.visitor c.in_ok-stopped.stopped c.told.result
    c.new-checker.ensures.setting v.2 c.told.ensures.failing
