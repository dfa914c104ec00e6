use Rattle.std.proofs.Common.{◌∙◌, ap, subst}
use Rattle.std.specs.Prelude.{Ok}
use Rattle.chr_base.specs.FinBag.{◌⊕◌}
use Rattle.chr_base.specs.Rules.{Step}
use Rattle.chr_base.specs.Stores.{store_of}
use Rattle.chr_columns.specs.working.Resting.{stored}
use Rattle.chr_columns.proofs.Pools.{joined_unfired, refused_unfired}
use Rattle.chr_columns.proofs.Running.{run_on, run_to}
use Rattle.chr_columns.proofs.stepping.advance_own.Goals as goal

pub loop-steps-preserved : goal.loop-steps-preserved
loop-steps-preserved c =
    let before = stored c.loop-steps.rested ⊕ store_of c.loop-steps.fresh.items in
    let after = stored c.settle.new.self ⊕ store_of c.settle.new.fresh.items in
    let step = subst (λ v. Step v.items before after) c.loop-steps.invariant.rules
    (c.settle.ensures.fired (c.in-Ok-Fired.is ∙ ap Ok c.in-Ok-Fired.field-0-is)) in
    record {
      rested = c.settle.ensures.rested;
      rules = c.settle.ensures.rules ∙ c.loop-steps.invariant.rules;
      standing = c.settle.ensures.standing;
      run = run_on c.args.rested.now.rules.items c.loop-steps.steps _ before after c.loop-steps.invariant.run step;
    }

pub returns-in-Ok-AtRest-clause-ok : goal.returns-in-Ok-AtRest-clause-ok
returns-in-Ok-AtRest-clause-ok c =
    rw c.give_room_back.ensures (
    run_to c.args.rested.now.rules.items c.loop-steps.steps _ _ _ c.loop-steps.invariant.run
    (c.settle.ensures.same (joined_unfired c.settle.result (c.in-Ok-AtRest.is ∙ ap Ok c.in-Ok-AtRest.field-0-is))))

pub returns-in-Err-clause-stopped : goal.returns-in-Err-clause-stopped
returns-in-Err-clause-stopped c =
    run_to c.args.rested.now.rules.items c.loop-steps.steps _ _ _ c.loop-steps.invariant.run
    (c.settle.ensures.same (refused_unfired c.settle.result _ c.in-Err.is))
