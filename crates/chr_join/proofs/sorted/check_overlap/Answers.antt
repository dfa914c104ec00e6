use Rattle.std.proofs.Common.{◌≡◌, sym, subst, ◌∙◌, length}
use Rattle.chr_weights.specs.WeighedPrograms.{rules_in}
use Rattle.chr_overlaps.specs.declared.cases.TheConstants.{MAX_TYPES}
use Rattle.chr_sorting.specs.FinestSorts.{sorts_of}
use Rattle.chr_sorting.specs.SortedCaseLists.{MoreCombinationsThan}
use Rattle.chr_join.specs.declared.coverage.Coverage.TheVariants.{Sorted}
use Rattle.chr_join.specs.Coverages.{IsTooManyBy}
use Rattle.chr_join.specs.Verdicts.{IsFirstBy}
use Rattle.chr_join.proofs.Visits.{no_sorted_cases, too_many_sorted}
use Rattle.chr_join.proofs.sorted.check_overlap.Goals as goal

pub returns-in_default-clause-ok : goal.returns-in_default-clause-ok
returns-in_default-clause-ok c = no_sorted_cases (rules_in c.args.weighed.now)
    (sorts_of c.args.sorting.now) c.args.overlap.now c.requires.finest c.in_default.ensures.none

pub returns-then-branch-clause-err : goal.returns-then-branch-clause-err
returns-then-branch-clause-err c first =
    let rules = rules_in c.args.weighed.now in
    let sorts = sorts_of c.args.sorting.now in
    let is = c.in-Some.ensures.unified in
    let ks = c.in_ok-sorts.sorts.items in
    let e = c.in_ok-sorts.ensures is.rule1 is.rule2 is.are_rules in
    let count : c.len.result ≡ length ks = c.len.ensures ∙ c.in_ok-sorts.sorts.ok.0 in
    let more = subst (λ xs. MoreCombinationsThan sorts xs MAX_TYPES) c.deref.ensures.value
    (c.in_ok-has_more_combinations.ensures.0 c.if-branch.true) in (
      subst (IsFirstBy Sorted rules) (sym c.copy.ensures) first,
      subst (λ o. IsTooManyBy Sorted rules o c.len.result) (sym c.copy.ensures)
          (too_many_sorted rules sorts c.args.overlap.now c.in-Some.unified ks c.len.result c.requires.finest is e count
          more),
    )
