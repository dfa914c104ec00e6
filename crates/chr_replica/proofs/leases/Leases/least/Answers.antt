use Rattle.std.proofs.Common.{rules, ◌≡◌, ℕ, Some, IsSome, false, sym, ap, subst, ◌∙◌}
use Rattle.std.specs.Option.{is_some}
use Rattle.std.specs.Ordering.{nat_cmp, is_gt}
use Rattle.std.specs.FinMap as map
use Rattle.std.proofs.lemmas.Map.Keys.{le_from_not_gt}
use Rattle.chr_replica.proofs.LeaseLists.{get_part, part_at}
use Rattle.chr_replica.proofs.leases.Leases.least.Goals as goal

pub returns-in-Some-clause-some : goal.returns-in-Some-clause-some
returns-in-Some-clause-some c =
    let k = c.in-Some.number.now in
    let there : map.get c.args.self.now k ≡ Some c.in-Some.field-0-1.now =
    ap (λ m. map.get m k) (sym c.self.view_is) ∙ get_part c.self.inside.parts.entries k ∙ c.in-Some.ensures.value in
    ap is_some there

pub returns-in-Some-clause-least : goal.returns-in-Some-clause-least
returns-in-Some-clause-least c = λ q out.
    let k = c.in-Some.number.now in
    let same : map.get c.args.self.now q ≡ part_at c.self.inside.parts.entries q =
    ap (λ m. map.get m q) (sym c.self.view_is) ∙ get_part c.self.inside.parts.entries q in
    let least : (p : ℕ) → IsSome (part_at c.self.inside.parts.entries p) → is_gt (nat_cmp k p) ≡ false = search rules in
    le_from_not_gt k q (least q (subst IsSome same out))
