use Rattle.std.proofs.Common.{ap, ◌∙◌}
use Rattle.chr_base.specs.Programs.{rules_of}
use Rattle.chr_join.proofs.SideSteps.{taken}
use Rattle.chr_diagnosis.proofs.stores.after.Goals as goal

pub returns : goal.returns
returns c = taken _ _ c.args.step.now c.args.store.now c.fired.result c.index-rules-step.result _ c.requires
    (c.rules.ensures ∙ ap rules_of c.program.ensures) c.index-rules-step.is c.deref.ensures.0 c.fired.ensures
