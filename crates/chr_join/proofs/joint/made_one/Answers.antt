use Rattle.std.proofs.Common.{sym, subst}
use Rattle.std.proofs.lemmas.Bool.{OnFalse_at}
use Rattle.chr_weights.specs.WeighedPrograms.{rules_in}
use Rattle.chr_overlaps.specs.CaseLists.{IsTooMany}
use Rattle.chr_overlaps.proofs.OneList.{too_many}
use Rattle.chr_types.specs.OrderTypes.{MoreTypesThan}
use Rattle.chr_overlaps.specs.declared.cases.TheConstants.{MAX_TYPES}
use Rattle.chr_join.specs.declared.coverage.Coverage.TheVariants.{Joint}
use Rattle.chr_join.specs.Verdicts.{IsFirstBy}
use Rattle.chr_join.proofs.joint.made_one.Goals as goal

pub returns-then-not-branch-clause-err : goal.returns-then-not-branch-clause-err
returns-then-not-branch-clause-err c first =
    let rules = rules_in c.args.weighed.now in
    let u = c.in-Some.ensures.unified in
    let n = c.free_classes-classes.result in
    let more = OnFalse_at c.if-not-branch.true c.in_ok-are_few.ensures.many in (
      subst (IsFirstBy Joint rules) (sym c.copy.ensures) first,
      subst (λ o. IsTooMany rules o n) (sym c.copy.ensures)
          (too_many rules c.args.overlap.now u.rule1 u.rule2 c.in-Some.unified c.args.constants.now n u.are_rules.0
          u.are_rules.1 c.requires.constants u.solves u.unified (
            c.free_classes-classes.ensures,
            subst (λ k. MoreTypesThan MAX_TYPES k c.args.constants.now)
                c.free_classes-classes.ensures more,
          )),
    )
