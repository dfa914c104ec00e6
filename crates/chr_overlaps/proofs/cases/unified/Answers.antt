use Rattle.std.proofs.Common.{ℕ, List, subst}
use Rattle.std.specs.Prelude.{IfNone, IfSome}
use Rattle.chr_weights.specs.WeighedPrograms.{rules_in}
use Rattle.chr_confluence.specs.Unifiers.{IsMostGeneralUnifier, HasNoUnifier}
use Rattle.chr_confluence.specs.Overlaps.{equations_of}
use Rattle.chr_overlaps.specs.working.Unifiers.{classes_of}
use Rattle.chr_overlaps.proofs.UnifiedOverlaps.{none_unified, is_unified}
use Rattle.chr_overlaps.proofs.cases.unified.Goals as goal

pub returns-clause-none : goal.returns-clause-none
returns-clause-none c =
    let r1 = c.rule_of-first.result.now in
    let r2 = c.rule_of-second.result.now in
    none_unified (rules_in c.args.weighed.now) c.args.overlap.now r1 r2 c.unify.result
    (c.rule_of-first.ensures, c.rule_of-second.ensures)
    (subst (λ (m : List ℕ). IfNone c.unify.result (HasNoUnifier (equations_of r1 r2 m))) c.deref.ensures.0
    c.unify.ensures.none)

pub returns-clause-unified : goal.returns-clause-unified
returns-clause-unified c =
    let r1 = c.rule_of-first.result.now in
    let r2 = c.rule_of-second.result.now in
    is_unified (rules_in c.args.weighed.now) c.args.overlap.now r1 r2 c.unify.result
    (c.rule_of-first.ensures, c.rule_of-second.ensures)
    (subst (λ (m : List ℕ). IfSome c.unify.result (λ u. IsMostGeneralUnifier (classes_of u) (equations_of r1 r2 m)))
    c.deref.ensures.0 c.unify.ensures.solves) c.unify.ensures.unified
