use Rattle.std.proofs.Common.{sym, subst}
use Rattle.chr_base.specs.FinBag.{◌⊕◌}
use Rattle.chr_base.specs.Rules.{Step}
use Rattle.chr_base.specs.Stores.{store_of}
use Rattle.chr_plans.specs.Seats.{head}
use Rattle.chr_plans.specs.Actives.{one}
use Rattle.chr_columns.specs.working.Resting.{stored, IsReacting, MayGoOn}
use Rattle.chr_columns.proofs.Owning.{carried_one}
use Rattle.chr_columns.proofs.rested.Rested.take.Goals as goal

pub fire-requires-clause-instance : goal.fire-requires-clause-instance
fire-requires-clause-instance c =
    let found = c.in-Some.ensures.found in
    subst (λ a. IsReacting c.react.new.self a c.in-Some.occurrence c.react.new.found.heads.items
    c.react.new.found.seats.items c.react.new.found.values.items) (sym found.active) found

pub fire-requires-clause-standing : goal.fire-requires-clause-standing
fire-requires-clause-standing c =
    let found = c.in-Some.ensures.found in
    subst (λ a. MayGoOn c.react.new.self a c.in-Some.occurrence.standing) (sym found.active)
    c.in-Some.ensures.standing

pub returns-clause-fired : goal.returns-clause-fired
returns-clause-fired c _ =
    let found = c.in-Some.ensures.found in
    let f = store_of c.args.fresh.now.items in
    let t = stored c.fire.new.self ⊕ store_of c.fire.new.fresh.items in
    let p = c.in-Some.occurrence.place in
    let own = c.args.self.now.rules.items in
    let active = head c.react.new.found.heads.items p in
    let step = carried_one c.react.new.self.rules.items c.in-Some.occurrence.rule found.rule _ _ found.at
    (c.fire.ensures.step found.rule found.at) in
    let own_step = subst (λ v. Step v.items ((stored c.react.new.self ⊕ f) ⊕ one active) t) c.react.ensures.rules
    step in
    subst (λ x. Step own ((stored c.args.self.now ⊕ f) ⊕ one x) t) found.active
    (subst (λ s. Step own ((s ⊕ f) ⊕ one active) t) c.react.ensures.stored own_step)
