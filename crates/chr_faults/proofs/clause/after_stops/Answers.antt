use Rattle.std.proofs.Common.{◌≡◌, ℕ, List, [], ◌∷◌, drop, refl, ap, ◌∙◌, arith}
use Rattle.chr_faults.specs.working.ClausePlaces.{after_stops}
use Rattle.chr_faults.proofs.clause.after_stops.Goals as goal

none : (bs : List ℕ) → after_stops 0 bs ≡ 0
none [] = refl
none (b ∷ bs) = refl

pub returns-then-left-eq0-clause-value : goal.returns-then-left-eq0-clause-value
returns-then-left-eq0-clause-value c =
    let rest = drop c.loop-at.at c.args.plain.now in
    let left : c.loop-at.left ≡ 0 = omega arith in
    let no_more : after_stops c.loop-at.left rest ≡ 0 = ap (λ k. after_stops k rest) left ∙ none rest in
    omega (arith, no_more, c.loop-at.invariant)
