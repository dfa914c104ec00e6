use Rattle.std.proofs.Common.{◌++◌, ◌∙◌, ap, map, sym, subst, ℕ}
use Rattle.std.specs.Prelude.{List}
use Rattle.std.proofs.lemmas.Bool.{OnTrue_at, OnTrue_from}
use Rattle.chr_base.specs.declared.rule.Rule.{Rule}
use Rattle.chr_base.specs.Rules.{atoms_at}
use Rattle.chr_base.specs.Stores.{store_of}
use Rattle.chr_base.specs.declared.term.Pattern.{Pattern}
use Rattle.chr_weights.specs.WeighedPrograms.{rules_in}
use Rattle.chr_overlaps.specs.EqualSides.{HaveEqualSides}
use Rattle.chr_overlaps.specs.working.Tables.{class_pattern}
use Rattle.chr_overlaps.specs.working.Unifiers.{classes_of}
use Rattle.chr_overlaps.proofs.EqualSides.{have_equal_sides}
use Rattle.chr_overlaps.proofs.UnifiedOverlaps.{rules_once}
use Rattle.chr_overlaps.proofs.equal_sides.has_equal_sides.Goals as goal

pub returns : goal.returns
returns c r1 r2 are =
    let r = c.rule_of-first.result.now in
    let s = c.rule_of-second.result.now in
    let σ = classes_of c.args.unified.now in
    let e = rules_once (rules_in c.args.weighed.now) c.args.overlap.now r s r1 r2
    (c.rule_of-first.ensures, c.rule_of-second.ensures) are in
    let k = c.variables-shift.ensures.number in
    let left = c.changes-left.ensures ∙ ap (λ (k : ℕ). map (class_pattern σ 0) r.body.items
    ++ map (class_pattern σ k) s.removed.items) k in
    let right = c.changes-right.ensures ∙ ap (λ (k : ℕ). map (class_pattern σ k) s.body.items
    ++ map (class_pattern σ 0) r.removed.items) k in
    OnTrue_from c.are_same.result _ (λ h.
    subst (λ (p : Rule × Rule). HaveEqualSides p.0 p.1 σ) (λ i. (e.0 i, e.1 i))
    (have_equal_sides r s σ c.changes-left.result.items c.changes-right.result.items left right
    (λ v. ap (λ (ps : List Pattern). store_of (atoms_at v ps)) (sym c.deref.ensures.0)
    ∙ OnTrue_at h c.are_same.ensures v)))
