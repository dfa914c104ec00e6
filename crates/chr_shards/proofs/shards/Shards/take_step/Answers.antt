use Rattle.std.proofs.Common.{rules, ◌≡◌, ◌<◌, List, Some, length, get_or, subst}
use Rattle.std.specs.Prelude.{IfOk, slice_get, slice_set}
use Rattle.std.specs.Bool.{OnTrue, OnFalse}
use Rattle.std.specs.Arc.{arc_value}
use Rattle.chr_base.specs.declared.atom.Atom.{Atom}
use Rattle.chr_base.specs.declared.rule.Rule.{Rule}
use Rattle.chr_weights.specs.WeighedPrograms.{rules_in}
use Rattle.chr_rewrite.specs.Derivations.{IsApplicable, LeadsTo}
use Rattle.chr_shards.specs.working.Placed.{place_in}
use Rattle.chr_base.specs.Stores.{stores_sum}
use Rattle.chr_shards.proofs.Steps.{shards_after, taken_in, none_in}
use Rattle.chr_shards.proofs.shards.Shards.take_step.Goals as goal

pub invariant_of-self : goal.invariant_of-self
invariant_of-self c =
    let r = c.self.inside in
    let rs = rules_in (arc_value r.weighed) in
    let ss = r.pools.items in
    let k = c.place_of_step-place.result in
    let s = c.index_mut.result.now in
    let t = c.take_step.new.pool in
    let st = c.args.step.now in
    let within : k < length ss = search rules in
    let here : s ≡ get_or ss k s = search rules in
    let own : c.rules.result.now ≡ rs = search rules in
    shards_after r.placing rs ss k s t st c.take_step.result c.self.invariant within here
    (subst (λ (xs : List Rule). IfOk c.take_step.result (λ b. OnTrue b (LeadsTo xs st s t))) own
    c.take_step.ensures.taken)
    c.take_step.ensures.same c.take_step.ensures.err

pub returns-clause-taken : goal.returns-clause-taken
returns-clause-taken c =
    let r = c.self.inside in
    let rs = rules_in (arc_value r.weighed) in
    let ss = r.pools.items in
    let k = c.place_of_step-place.result in
    let s = c.index_mut.result.now in
    let t = c.take_step.new.pool in
    let st = c.args.step.now in
    let within : k < length ss = search rules in
    let here : s ≡ get_or ss k s = search rules in
    let own : c.rules.result.now ≡ rs = search rules in
    subst (λ u. IfOk c.take_step.result (λ b. OnTrue b
    (LeadsTo (rules_in u.weighed) st u.store (stores_sum (slice_set ss k t))))) c.self.view_is
    (taken_in r.placing rs ss k s t st c.take_step.result c.self.invariant within here
    (subst (λ (xs : List Rule). IfOk c.take_step.result (λ b. OnTrue b (LeadsTo xs st s t))) own
    c.take_step.ensures.taken))

pub returns-clause-none : goal.returns-clause-none
returns-clause-none c =
    let r = c.self.inside in
    let rs = rules_in (arc_value r.weighed) in
    let ss = r.pools.items in
    let k = c.place_of_step-place.result in
    let s = c.index_mut.result.now in
    let t = c.take_step.new.pool in
    let st = c.args.step.now in
    let within : k < length ss = search rules in
    let here : s ≡ get_or ss k s = search rules in
    let own : c.rules.result.now ≡ rs = search rules in
    let many : c.len.result ≡ length ss = search rules in
    subst (λ u. IfOk c.take_step.result (λ b. OnFalse b (¬ IsApplicable (rules_in u.weighed) u.store st)))
    c.self.view_is
    (none_in r.placing rs ss k s t st c.take_step.result c.self.invariant within here
    (subst (λ n. (a : Atom) → slice_get st.heads.items 0 ≡ Some a → k ≡ place_in r.placing n a) many
    c.place_of_step-place.ensures.first)
    (subst (λ (xs : List Rule). IfOk c.take_step.result (λ b. OnFalse b (¬ IsApplicable xs s st))) own
    c.take_step.ensures.none))
