use Rattle.std.proofs.Common.{rules, ◌≡◌, ◌<◌, length, get_or, refl, sym, subst, ◌∙◌, arith}
use mathlib.Core.Bool.{true≢false}
use Rattle.chr_base.specs.Rewriting.{IsAtRest}
use Rattle.chr_base.specs.Rules.{Step}
use Rattle.chr_weights.specs.WeighedPrograms.{rules_in}
use Rattle.chr_shards.proofs.Places.{pool_is}
use Rattle.chr_shards.proofs.Rests.{rest_next}
use Rattle.chr_shards.proofs.pools.rest_all.Goals as goal

pub returns-then-not-at_rest : goal.returns-then-not-at_rest
returns-then-not-at_rest c =
    let ss = c.args.pools.now in
    let k = c.loop-pool.pool-index in
    let s = c.pool-item.result in
    let within : k < length ss = search rules in
    let here : s ≡ get_or ss k s = search rules in (
      λ h. absurd (true≢false (sym h)),
      λ each. absurd (true≢false (sym (c.at_rest.ensures.1
          (subst (λ u. IsAtRest (Step (rules_in c.args.weighed.now)) u) (pool_is ss k s within here) (each k within)))
          ∙ c.if-not-at_rest.true)),
    )

pub loop-pool-preserved : goal.loop-pool-preserved
loop-pool-preserved c =
    let ss = c.args.pools.now in
    let k = c.loop-pool.pool-index in
    let s = c.pool-item.result in
    let within : k < length ss = search rules in
    let here : s ≡ get_or ss k s = search rules in
    rest_next (rules_in c.args.weighed.now) ss k s within here c.loop-pool.invariant
    (c.at_rest.ensures.0 c.if-not-at_rest.false)

pub returns : goal.returns
returns c = (λ _ k l. c.loop-pool.invariant k (omega arith), λ _. refl)
