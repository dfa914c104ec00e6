use Rattle.std.proofs.Common.{rules, ◌≡◌, ℕ, ◌<◌, List, length, subst}
use Rattle.std.specs.Prelude.{IsTrue, ◌↔◌}
use Rattle.std.specs.Arc.{arc_value}
use Rattle.chr_base.specs.Rewriting.{IsAtRest}
use Rattle.chr_base.specs.Rules.{Step}
use Rattle.chr_base.specs.Stores.{Store}
use Rattle.chr_weights.specs.WeighedPrograms.{rules_in}
use Rattle.chr_shards.specs.working.Placed.{store_at}
use Rattle.chr_shards.proofs.Instances.{rests_together, rests_apart}
use Rattle.chr_shards.proofs.shards.Shards.at_rest.Goals as goal

pub returns : goal.returns
returns c =
    let r = c.self.inside in
    let w = arc_value r.weighed in
    let ss = r.pools.items in
    let is = c.self.invariant in
    let b = c.rest_all.result in
    let own : c.deref.result.now ≡ w = search rules in
    let all : c.deref-2.result.now ≡ ss = search rules in
    let each = subst (λ v. IsTrue b ↔ ((k : ℕ) → k < length ss → IsAtRest (Step (rules_in v)) (store_at ss k))) own
    (subst (λ (xs : List Store). IsTrue b
    ↔ ((k : ℕ) → k < length xs → IsAtRest (Step (rules_in c.deref.result.now)) (store_at xs k))) all
    c.rest_all.ensures) in
    subst (λ u. IsTrue b ↔ IsAtRest (Step (rules_in u.weighed)) u.store) c.self.view_is (
      λ h. rests_together r.placing (rules_in w) ss is (each.0 h),
      λ rest. each.1 (rests_apart r.placing (rules_in w) ss is rest),
    )
