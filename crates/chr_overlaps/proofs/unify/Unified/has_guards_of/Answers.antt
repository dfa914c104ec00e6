use Rattle.std.proofs.Common.{◌≡◌, nat_eq, sym, subst, ◌∙◌}
use Rattle.std.specs.Bool.{Decides}
use Rattle.std.specs.Cmp.{unsigned_Decides}
use Rattle.std.specs.Cmp.Lexicographic.{pointwise, pointwise_decides}
use Rattle.chr_base.proofs.SameRules.{both_decide, comparison_decides}
use Rattle.chr_base.specs.contracts.term.ComparisonPartialEq.TheImpl.{eq-value}
use Rattle.chr_overlaps.proofs.unify.Unified.has_guards_of.Goals as goal

pub returns : goal.returns
returns c =
    let u = c.args.self.now in
    let w = c.args.other.now in
    let free = c.eq-classes.ensures ∙ (λ i. pointwise nat_eq (c.as_slice.ensures.value i)
    (c.as_slice-2.ensures.value i)) in
    let guards = c.eq-comparisons.ensures ∙ (λ i. pointwise eq-value.it (c.as_slice-3.ensures.value i)
    (c.as_slice-4.ensures.value i)) in
    both_decide c.eq-classes.result c.eq-comparisons.result
    (subst (λ b. Decides b (u.free.items ≡ w.free.items)) (sym free)
    (pointwise_decides unsigned_Decides u.free.items w.free.items))
    (subst (λ b. Decides b (u.guards.items ≡ w.guards.items)) (sym guards)
    (pointwise_decides comparison_decides u.guards.items w.guards.items))
