use Rattle.std.proofs.Common.{sym, ap, subst, ◌∙◌}
use Rattle.std.specs.Prelude.{Ok}
use Rattle.chr_base.specs.FinBag.{◌⊕◌}
use Rattle.chr_base.specs.Stores.{store_of}
use Rattle.chr_base.specs.Rules.{Step}
use Rattle.chr_plans.specs.Actives.{one}
use Rattle.chr_columns.specs.working.Resting.{stored}
use Rattle.chr_columns.proofs.Firings.{popped, swap_sides}
use Rattle.chr_columns.proofs.Resuming.{stood}
use Rattle.chr_columns.proofs.rested.Rested.settle.Goals as goal

pub returns-in-Ok-Fired-clause-fired : goal.returns-in-Ok-Fired-clause-fired
returns-in-Ok-Fired-clause-fired c _ =
    let s = stored c.loop-active.self in
    let t = stored c.take.new.self ⊕ store_of c.take.new.fresh.items in
    let e = popped s c.reserve.new.self.items c.pop_into.new.fresh.items c.pop_into.new.active c.pop_into.ensures.items
    ∙ ap (λ xs. s ⊕ store_of xs) c.reserve.ensures.items ∙ c.loop-active.invariant.same in
    let fired = c.take.ensures.fired (c.in-Ok-Fired.is ∙ ap Ok c.in-Ok-Fired.field-0-is) in
    let own_step = subst (λ v. Step v.items ((s ⊕ store_of c.pop_into.new.fresh.items) ⊕ one c.pop_into.new.active) t)
    c.loop-active.invariant.rules fired in
    subst (λ x. Step c.args.self.now.rules.items x t) e own_step

pub loop-active-preserved : goal.loop-active-preserved
loop-active-preserved c =
    let s = stored c.loop-active.self in
    let e = popped s c.reserve.new.self.items c.pop_into.new.fresh.items c.pop_into.new.active c.pop_into.ensures.items
    ∙ ap (λ xs. s ⊕ store_of xs) c.reserve.ensures.items ∙ c.loop-active.invariant.same in
    let is = c.in-Ok-AtRest.is ∙ ap Ok c.in-Ok-AtRest.field-0-is in
    record {
      rested = c.take.ensures.rested;
      rules = c.take.ensures.rules ∙ c.loop-active.invariant.rules;
      standing = c.take.ensures.standing;
      same = (λ i. c.take.ensures.joined is i ⊕ store_of (c.take.ensures.joined_same is i).items)
          ∙ swap_sides s (store_of c.pop_into.new.fresh.items) (one c.pop_into.new.active) ∙ e;
    }

pub take-requires-clause-standing : goal.take-requires-clause-standing
take-requires-clause-standing c =
    stood c.loop-active.self c.loop-active.fresh.items c.pop_into.new.fresh.items c.pop_into.new.active
    c.loop-active.standing c.loop-active.invariant.standing (sym c.reserve.ensures.items ∙ c.pop_into.ensures.items)
