use Rattle.std.proofs.Common.{ℕ, List, subst}
use Rattle.std.specs.Prelude.{IfNone, IfSome}
use Rattle.chr_weights.specs.WeighedPrograms.{rules_in}
use Rattle.chr_confluence.specs.Unifiers.{IsMostGeneralUnifier, HasNoUnifier}
use Rattle.chr_confluence.specs.SortedCases.{all_equations}
use Rattle.chr_overlaps.specs.working.Unifiers.{classes_of}
use Rattle.chr_overlaps.proofs.UnifiedOverlaps.{none_sorted, is_sorted}
use Rattle.chr_overlaps.proofs.cases.sorted_unified.Goals as goal

pub returns-clause-none : goal.returns-clause-none
returns-clause-none c =
    let r1 = c.rule_of-first.result.now in
    let r2 = c.rule_of-second.result.now in
    none_sorted (rules_in c.args.weighed.now) c.args.overlap.now r1 r2 c.sorted_unify.result
    (c.rule_of-first.ensures, c.rule_of-second.ensures)
    (subst (λ (m : List ℕ). IfNone c.sorted_unify.result (HasNoUnifier (all_equations r1 r2 m))) c.deref.ensures.0
    c.sorted_unify.ensures.none)

pub returns-clause-unified : goal.returns-clause-unified
returns-clause-unified c =
    let r1 = c.rule_of-first.result.now in
    let r2 = c.rule_of-second.result.now in
    is_sorted (rules_in c.args.weighed.now) c.args.overlap.now r1 r2 c.sorted_unify.result
    (c.rule_of-first.ensures, c.rule_of-second.ensures)
    (subst (λ (m : List ℕ). IfSome c.sorted_unify.result
    (λ u. IsMostGeneralUnifier (classes_of u) (all_equations r1 r2 m))) c.deref.ensures.0
    c.sorted_unify.ensures.solves) c.sorted_unify.ensures.unified
