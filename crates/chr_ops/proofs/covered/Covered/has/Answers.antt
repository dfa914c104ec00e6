use Rattle.std.proofs.Common.{rules, arith, ap, sym, ◌∙◌, ◌≡◌, ◌≤◌}
use Rattle.std.proofs.lemmas.Bool.Decides.{nat_tests}
use Rattle.chr_ops.specs.Summaries.{covers}
use Rattle.chr_ops.proofs.RangeLookups.{from_last, in_last, in_none, same_bool}
use Rattle.chr_ops.proofs.covered.Covered.has.Goals as goal

pub returns-then-first-id : goal.returns-then-first-id
returns-then-first-id c =
    let m = c.self.inside.ends in
    let id = c.args.id in
    let same : c.in-Some.first.origin ≡ id.origin = search (rules, nat_tests) in
    same_bool _ _
    (λ within. (
    let high : id.number ≤ c.in-Some.last = grind (arith, nat_tests, within) in
    sym (ap (λ rs. covers rs id) c.self.view_is)
    ∙ from_last m c.self.invariant.disjoint id c.in-Some.first c.in-Some.last c.in-Some.ensures.there
    c.in-Some.ensures.up_to same high))
    (λ covered. (
    let high = (in_last m c.self.invariant.disjoint id c.in-Some.first c.in-Some.last c.in-Some.ensures.there
    c.in-Some.ensures.up_to c.in-Some.ensures.last
    (ap (λ rs. covers rs id) c.self.view_is ∙ covered)).1 in
    grind (arith, nat_tests, high)))

pub returns-else-first-id : goal.returns-else-first-id
returns-else-first-id c =
    let m = c.self.inside.ends in
    let id = c.args.id in
    same_bool _ _ (λ same. absurd (search (rules, same)))
    (λ covered. (
    let same = (in_last m c.self.invariant.disjoint id c.in-Some.first c.in-Some.last c.in-Some.ensures.there
    c.in-Some.ensures.up_to c.in-Some.ensures.last
    (ap (λ rs. covers rs id) c.self.view_is ∙ covered)).0 in
    grind (arith, nat_tests, same)))

pub returns-in-None : goal.returns-in-None
returns-in-None c =
    sym (sym (ap (λ rs. covers rs c.args.id) c.self.view_is)
    ∙ in_none c.self.inside.ends c.self.invariant.disjoint c.args.id c.in-None.ensures.none)
