use Rattle.std.proofs.Common.{sym, subst}
use Rattle.std.proofs.lemmas.Bool.{OnFalse_at}
use Rattle.chr_types.specs.OrderTypes.{MoreTypesThan}
use Rattle.chr_weights.specs.WeighedPrograms.{rules_in}
use Rattle.chr_overlaps.specs.declared.cases.TheConstants.{MAX_TYPES}
use Rattle.chr_overlaps.proofs.OneList.{too_many}
use Rattle.chr_join.proofs.numbers.case_number.Goals as goal

pub returns-then-not-branch-clause-number : goal.returns-then-not-branch-clause-number
returns-then-not-branch-clause-number c =
    let u = c.in-Some.ensures.unified in
    let n = c.free_classes.result in
    let more = OnFalse_at c.if-not-branch.true c.in_ok-are_few.ensures.many in (
      n,
      too_many (rules_in c.args.weighed.now) c.args.overlap.now u.rule1 u.rule2 c.in-Some.unified c.args.constants.now
          n u.are_rules.0 u.are_rules.1 c.requires.constants u.solves u.unified (
            c.free_classes.ensures,
            subst (λ k. MoreTypesThan MAX_TYPES k c.args.constants.now) c.free_classes.ensures more,
          ),
    )
