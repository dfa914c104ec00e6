use Rattle.std.proofs.Common.{rules, ◌≡◌, subst}
use Rattle.std.specs.Arc.{arc_value}
use Rattle.chr_base.specs.Rewriting.{Reaches}
use Rattle.chr_base.specs.Rules.{Step}
use Rattle.chr_weights.specs.WeighedPrograms.{rules_in}
use Rattle.chr_shards.specs.working.Placed.{ReachEach}
use Rattle.chr_base.specs.Stores.{stores_sum}
use Rattle.chr_shards.proofs.Rests.{reach_sum, shards_stay}
use Rattle.chr_shards.proofs.shards.Shards.hasten.Goals as goal

pub invariant_of-self : goal.invariant_of-self
invariant_of-self g c =
    let r = c.self.inside in
    let ts = c.hasten_each.new.pools.items in
    let own : c.deref.result.now ≡ arc_value r.weighed = search rules in
    shards_stay r.placing (rules_in (arc_value r.weighed)) r.pools.items ts c.self.invariant
    (subst (λ v. ReachEach (rules_in v) r.pools.items ts) own c.hasten_each.ensures)

pub returns-clause-reached : goal.returns-clause-reached
returns-clause-reached g c =
    let r = c.self.inside in
    let ts = c.hasten_each.new.pools.items in
    let own : c.deref.result.now ≡ arc_value r.weighed = search rules in
    subst (λ u. Reaches (Step (rules_in u.weighed)) u.store (stores_sum ts)) c.self.view_is
    (reach_sum (rules_in (arc_value r.weighed)) r.pools.items ts
    (subst (λ v. ReachEach (rules_in v) r.pools.items ts) own c.hasten_each.ensures))
