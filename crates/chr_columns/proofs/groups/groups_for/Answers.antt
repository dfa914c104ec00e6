use Rattle.std.proofs.Common.{◌≡◌, length, sym, ap, subst, ◌∙◌, arith, inl, inr}
use Rattle.std.specs.Prelude.{slice_get}
use Rattle.std.proofs.lemmas.Bool.{cases_lt}
use Rattle.std.proofs.lemmas.Option.{get_or_from_slice_get, slice_get_within}
use Rattle.chr_base.specs.declared.rule.Rule.{Rule}
use Rattle.chr_base.specs.Rules.{heads_of}
use Rattle.chr_plans.specs.Plans.{pattern_at}
use Rattle.chr_columns.specs.working.Groups.{AreGrouped}
use Rattle.chr_columns.proofs.groups.groups_for.Goals as goal

pub loop-rule-preserved : goal.loop-rule-preserved
loop-rule-preserved c =
    let gs = c.add_groups.new.groups.items in
    let x = c.rule-item.result in
    record {
      grouped = λ i r l e. (elim (cases_lt i c.loop-rule.rule-index) as (λ _. AreGrouped gs r (length (heads_of r))) [
        | inl less ↦ (λ p k. (c.add_groups.ensures.stay (pattern_at r p)
            (c.loop-rule.invariant.grouped i r less e p k)))
        | inr most ↦ (let at : i ≡ c.loop-rule.rule-index = omega (arith, l, most) in
            let same : x ≡ r = c.rule-item.is ∙ get_or_from_slice_get c.args.rules.now c.loop-rule.rule-index r x
            (ap (slice_get c.args.rules.now) (sym at) ∙ e) in
            subst (λ (y : Rule). AreGrouped gs y (length (heads_of y))) same c.in_ok-add_groups.ensures.grouped)
      ]);
      no_plans = c.add_groups.ensures.no_plans c.loop-rule.invariant.no_plans;
    }

pub returns-clause-grouped : goal.returns-clause-grouped
returns-clause-grouped c i r e =
    let l = slice_get_within c.args.rules.now i r e in
    let n = c.loop-rule-test.false in
    c.loop-rule.invariant.grouped i r (omega (arith, l, n)) e
