use Rattle.std.proofs.Common.{◌∙◌}
use Rattle.std.proofs.lemmas.Result.{IfOk-weaker}
use Rattle.chr_weights.specs.WeighedPrograms.{program_of}
use Rattle.chr_join.proofs.RestedParts.{rested_normal}
use Rattle.chr_join.proofs.parts.rested.Goals as goal

pub returns-in-Ok : goal.returns-in-Ok
returns-in-Ok c =
    IfOk-weaker c.bag.result _ _ (λ b same. rested_normal (program_of c.args.weighed.now) _ c.args.part.now _ _ b
    (c.arrange.ensures ∙ c.in_ok-pool.ensures) c.in-Ok.ensures.ok c.in-Ok.ensures.rests same) c.bag.ensures
