use Rattle.std.proofs.Common.{rules, ap, sym, subst, ◌∙◌, ◌≡◌, None}
use Rattle.std.specs.Option.{IsSome}
use Rattle.std.specs.FinMap as map
use Rattle.chr_ops.proofs.EntryLists.{get_value}
use Rattle.chr_ops.proofs.ends.Ends.first_from.Goals as goal

pub returns-in_err-first-clause-none : goal.returns-in_err-first-clause-none
returns-in_err-first-clause-none c =
    let none : c.from_residual.result ≡ None = search rules in
    rw none (λ q from. ap (λ m. map.get m q) (sym c.self.view_is) ∙ get_value c.self.inside.last.entries q
    ∙ (c.range.ensures.in_range tt).5 c.in_err-first.ensures.steps.0 q (from, tt))

pub returns-clause-there : goal.returns-clause-there
returns-clause-there c =
    let first = (c.range.ensures.in_range tt).1 in
    ap (λ m. map.get m c.in_ok-first.first.now) (sym c.self.view_is)
    ∙ get_value c.self.inside.last.entries c.in_ok-first.first.now
    ∙ (rw c.in_ok-first.ensures.steps at first).1

pub returns-clause-first : goal.returns-clause-first
returns-clause-first c = λ q from there.
    let value = ap (λ m. map.get m q) (sym c.self.view_is) ∙ get_value c.self.inside.last.entries q in
    let first = (c.range.ensures.in_range tt).2 q (from, tt) (subst IsSome value there) in
    rw c.in_ok-first.ensures.steps at first
