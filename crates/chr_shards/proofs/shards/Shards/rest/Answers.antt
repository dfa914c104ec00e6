use Rattle.std.proofs.Common.{rules, ◌≡◌, ℕ, ◌<◌, length, subst}
use Rattle.std.specs.Prelude.{OnOk}
use Rattle.std.specs.Arc.{arc_value}
use Rattle.chr_base.specs.Rewriting.{IsAtRest}
use Rattle.chr_base.specs.Rules.{Step}
use Rattle.chr_weights.specs.WeighedPrograms.{rules_in}
use Rattle.chr_shards.specs.working.Placed.{store_at, ReachEach}
use Rattle.chr_base.specs.Stores.{stores_sum}
use Rattle.chr_shards.proofs.Rests.{shards_stay, rests_where_ok}
use Rattle.chr_shards.proofs.shards.Shards.rest.Goals as goal

pub invariant_of-self : goal.invariant_of-self
invariant_of-self c =
    let r = c.self.inside in
    let ts = c.rest_each.new.pools.items in
    let own : c.deref.result.now ≡ arc_value r.weighed = search rules in
    shards_stay r.placing (rules_in (arc_value r.weighed)) r.pools.items ts c.self.invariant
    (subst (λ v. ReachEach (rules_in v) r.pools.items ts) own c.rest_each.ensures.each)

pub returns-clause-rests : goal.returns-clause-rests
returns-clause-rests c =
    let r = c.self.inside in
    let ts = c.rest_each.new.pools.items in
    let own : c.deref.result.now ≡ arc_value r.weighed = search rules in
    let is = shards_stay r.placing (rules_in (arc_value r.weighed)) r.pools.items ts c.self.invariant
    (subst (λ v. ReachEach (rules_in v) r.pools.items ts) own c.rest_each.ensures.each) in
    subst (λ u. OnOk c.rest_each.result (IsAtRest (Step (rules_in u.weighed)) (stores_sum ts))) c.self.view_is
    (rests_where_ok r.placing (rules_in (arc_value r.weighed)) ts c.rest_each.result is
    (subst (λ v. OnOk c.rest_each.result ((k : ℕ) → k < length ts → IsAtRest (Step (rules_in v)) (store_at ts k))) own
    c.rest_each.ensures.rests))
