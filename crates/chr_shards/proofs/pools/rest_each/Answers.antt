use Rattle.std.proofs.Common.{rules, ◌≡◌, ◌<◌, length, get_or, subst, sym, arith}
use Rattle.std.proofs.lemmas.List.{length-set}
use Rattle.chr_base.specs.Rewriting.{Reaches}
use Rattle.chr_base.specs.Rules.{Step}
use Rattle.chr_weights.specs.WeighedPrograms.{program_of, rules_in}
use Rattle.chr_rewrite.specs.Pools.{TookSteps}
use Rattle.chr_rewrite.proofs.PoolLemmas.{took_reaches}
use Rattle.chr_base.specs.Stores.{stores_sum}
use Rattle.chr_shards.proofs.Places.{pool_is}
use Rattle.chr_shards.proofs.Rests.{reach_on, took_in, rest_more}
use Rattle.chr_shards.proofs.pools.rest_each.Goals as goal

pub returns-in-Err-clause-each : goal.returns-in-Err-clause-each
returns-in-Err-clause-each c =
    let w = c.args.weighed.now in
    let ss = c.loop-place.pools.items in
    let k = c.loop-place.place in
    let s = c.index_mut.result.now in
    let t = c.rest_one.new.pool in
    let within : k < length ss = search rules in
    let here : s ≡ get_or ss k s = search rules in
    let at = pool_is ss k s within here in
    reach_on (rules_in w) c.args.pools.now.items ss k t c.loop-place.invariant.0 within
    (subst (λ u. Reaches (Step (rules_in w)) u t) (sym at)
    (took_reaches (program_of w) c.in-Err.stopped.steps s t c.in-Err.ensures.stopped)) (length-set ss k t)

pub returns-in-Err-clause-stopped : goal.returns-in-Err-clause-stopped
returns-in-Err-clause-stopped c =
    let w = c.args.weighed.now in
    let ss = c.loop-place.pools.items in
    let k = c.loop-place.place in
    let s = c.index_mut.result.now in
    let t = c.rest_one.new.pool in
    let within : k < length ss = search rules in
    let here : s ≡ get_or ss k s = search rules in
    let at = pool_is ss k s within here in
    took_in (program_of w) c.loop-place.steps c.in-Err.stopped.steps c.saturating_add-steps-in-Err.result
    (stores_sum c.args.pools.now.items) ss k t w.lowers c.loop-place.invariant.1 within
    (subst (λ u. TookSteps (program_of w) c.in-Err.stopped.steps u t) (sym at) c.in-Err.ensures.stopped)
    c.saturating_add-steps-in-Err.ensures

pub loop-place-preserved : goal.loop-place-preserved
loop-place-preserved c =
    let w = c.args.weighed.now in
    let ss = c.loop-place.pools.items in
    let k = c.loop-place.place in
    let s = c.index_mut.result.now in
    let t = c.rest_one.new.pool in
    let within : k < length ss = search rules in
    let here : s ≡ get_or ss k s = search rules in
    let at = pool_is ss k s within here in (
      reach_on (rules_in w) c.args.pools.now.items ss k t c.loop-place.invariant.0 within
          (subst (λ u. Reaches (Step (rules_in w)) u t) (sym at)
          (took_reaches (program_of w) c.in-Ok.more s t c.in-Ok.ensures.ok)) (length-set ss k t),
      took_in (program_of w) c.loop-place.steps c.in-Ok.more c.saturating_add-steps.result
          (stores_sum c.args.pools.now.items) ss k t w.lowers c.loop-place.invariant.1 within
          (subst (λ u. TookSteps (program_of w) c.in-Ok.more u t) (sym at) c.in-Ok.ensures.ok)
          c.saturating_add-steps.ensures,
      λ i l. rest_more (rules_in w) ss k t within c.loop-place.invariant.2 c.in-Ok.ensures.rests i (omega (arith, l)),
    )

pub returns-clause-rests : goal.returns-clause-rests
returns-clause-rests c = λ k l.
    c.loop-place.invariant.2 k (omega arith)
