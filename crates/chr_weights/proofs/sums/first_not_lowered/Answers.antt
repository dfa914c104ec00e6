use Rattle.std.proofs.Common.{ap, arith, length, subst, ◌∙◌}
use Rattle.chr_base.specs.Weights.{IsLighter, total_weight}
use Rattle.chr_base.specs.Rules.{atoms_at}
use Rattle.chr_weights.specs.Weights.{weight_in}
use Rattle.chr_weights.proofs.Weighing.{all_lower, at_place, lowers_more, refuted_by, shown_by}
use Rattle.chr_weights.proofs.sums.first_not_lowered.Goals as goal

pub returns-then-not-is_lighter-clause-first : goal.returns-then-not-is_lighter-clause-first
returns-then-not-is_lighter-clause-first c =
    let p = c.args.program.now in
    let lengths = ap length c.rules-rule-items.ensures in
    record {
      first = omega arith;
      within = omega (arith, c.loop-i-test.true, lengths);
      earlier = λ j r l e. c.loop-i.invariant j r (omega (arith, l)) e;
      weight_before = λ r v e. at_place p c.rules-rule-items.result.now c.loop-i.i c.rule-item.result _
          (λ x. x.removed.items) c.rules-rule-items.ensures c.loop-i-test.true c.rule-item.is
          (λ u. c.patterns_weight-before.ensures u ∙ ap (λ ps. total_weight (weight_in p) (atoms_at u ps))
          c.deref.ensures.0) r v e;
      weight_after = λ r v e. at_place p c.rules-rule-items.result.now c.loop-i.i c.rule-item.result _
          (λ x. x.body.items) c.rules-rule-items.ensures c.loop-i-test.true c.rule-item.is
          (λ u. c.patterns_weight-after.ensures u ∙ ap (λ ps. total_weight (weight_in p) (atoms_at u ps))
          c.deref-in-loop-i.ensures.0) r v e;
      not_lowered = refuted_by c.is_lighter.result c.is_lighter.ensures c.if-not-is_lighter.true;
    }

pub loop-i-preserved : goal.loop-i-preserved
loop-i-preserved c =
    let p = c.args.program.now in
    lowers_more p c.rules-rule-items.result.now c.loop-i.i c.rule-item.result c.rules-rule-items.ensures
    c.loop-i-test.true c.rule-item.is c.loop-i.invariant (λ v. (
    let a = c.patterns_weight-before.ensures v ∙ ap (λ ps. total_weight (weight_in p) (atoms_at v ps))
    c.deref.ensures.0 in
    let b = c.patterns_weight-after.ensures v ∙ ap (λ ps. total_weight (weight_in p) (atoms_at v ps))
    c.deref-in-loop-i.ensures.0 in
    subst (λ x. IsLighter x (total_weight (weight_in p) (atoms_at v c.rule-item.result.removed.items))) b
    (subst (IsLighter c.patterns_weight-after.result) a
    (shown_by c.is_lighter.result c.is_lighter.ensures c.if-not-is_lighter.false))))

pub returns-clause-none : goal.returns-clause-none
returns-clause-none c = all_lower c.args.program.now c.rules-rule-items.result.now c.loop-i.i c.rules-rule-items.ensures
    (omega (arith, c.loop-i-test.false)) c.loop-i.invariant
