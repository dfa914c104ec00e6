use Rattle.std.proofs.Common.{◌*◌, ◌-◌, ◌/◌, ◌<◌, inl, inr, arith}
use Rattle.std.proofs.lemmas.Bool.{cases_lt}
use Rattle.chr_portions.proofs.skips.find.Goals as goal

pub returns-then-found-gt0-clause-none_between : goal.returns-then-found-gt0-clause-none_between
returns-then-found-gt0-clause-none_between c = λ p l s.
    let least = c.within-found.ensures.least c.if-found-gt0.true in
    elim (cases_lt p (8 * ((c.loop-at.at - 1) / 8))) as (λ _. p < c.within-found.result) [
      | inl less ↦ omega (arith, less, least)
      | inr more ↦ c.within-found.ensures.none_between p more (c.loop-at.invariant.above p l s) s
    ]
