use Rattle.chr_columns.proofs.Running.{steps_or_stays}
use Rattle.chr_columns.proofs.columns.Columns.step.Goals as goal

pub returns-in-Ok-clause-step : goal.returns-in-Ok-clause-step
returns-in-Ok-clause-step c = steps_or_stays c.args.rules.now c.in-Ok.steps _ _ c.in-Ok.ensures.most c.in-Ok.ensures.ok
    c.in-Ok.ensures.rests
