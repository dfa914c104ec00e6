use Rattle.std.proofs.Common.{rules, ap, sym, subst, ◌∙◌, ◌≡◌, None}
use Rattle.std.specs.Option.{IsSome}
use Rattle.std.specs.FinMap as map
use Rattle.chr_ops.proofs.EntryLists.{get_value}
use Rattle.chr_ops.proofs.ends.Ends.last_up_to.Goals as goal

pub returns-in_err-first-clause-none : goal.returns-in_err-first-clause-none
returns-in_err-first-clause-none c =
    let none : c.from_residual.result ≡ None = search rules in
    rw none (λ q near. ap (λ m. map.get m q) (sym c.self.view_is) ∙ get_value c.self.inside.last.entries q
    ∙ (c.range.ensures.in_range tt).5 c.in_err-first.ensures.steps.0 q (tt, near))

pub returns-clause-there : goal.returns-clause-there
returns-clause-there c =
    ap (λ m. map.get m c.in_ok-first.first.now) (sym c.self.view_is)
    ∙ get_value c.self.inside.last.entries c.in_ok-first.first.now
    ∙ ((c.range.ensures.in_range tt).3 _ _ c.in_ok-first.ensures.steps).1

pub returns-clause-last : goal.returns-clause-last
returns-clause-last c = λ q near there.
    (c.range.ensures.in_range tt).4 _ _ c.in_ok-first.ensures.steps q (tt, near)
    (subst IsSome (ap (λ m. map.get m q) (sym c.self.view_is) ∙ get_value c.self.inside.last.entries q) there)
