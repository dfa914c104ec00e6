use Rattle.std.proofs.Common.{rules, ◌≡◌, ◌<◌, List, All, replicate, sym, ap, subst, ◌∙◌}
use Rattle.std.specs.Arc.{arc_value}
use Rattle.chr_base.specs.declared.rule.Rule.{Rule}
use Rattle.chr_base.specs.FinBag as bag
use Rattle.chr_weights.specs.WeighedPrograms.{rules_in}
use Rattle.chr_plans.specs.Joined.{IsLocal}
use Rattle.chr_shards.specs.working.Placed.{AreShards}
use Rattle.chr_base.specs.Stores.{stores_sum}
use Rattle.chr_shards.proofs.Rests.{empty_shards}
use Rattle.chr_shards.proofs.Sums.{empty_stores}
use Rattle.chr_shards.proofs.shards.Shards.open.Goals as goal

pub invariant_of-result : goal.invariant_of-result
invariant_of-result c =
    let p = c.placing_for-placing.result.0 in
    let n = c.placing_for-placing.result.1 in
    let rs = rules_in (arc_value c.args.weighed) in
    let own : c.rules-rules.result.now ≡ rs = search rules in
    let is : c.in_ok-pools.pools.items ≡ replicate n bag.empty = search rules in
    subst (AreShards p rs) (sym is)
    (empty_shards p rs n c.placing_for-placing.ensures.some
    (subst (λ (xs : List Rule). 1 < n → All (IsLocal p.joint.columns.items) xs) own
    c.placing_for-placing.ensures.local))

pub returns-clause-store : goal.returns-clause-store
returns-clause-store c =
    let n = c.placing_for-placing.result.1 in
    let is : c.in_ok-pools.pools.items ≡ replicate n bag.empty = search rules in
    ap stores_sum is ∙ empty_stores n
