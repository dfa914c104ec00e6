use Rattle.std.proofs.Common.{refl}
use Rattle.chr_report.proofs.Gathers.{gathering_rests}
use Rattle.chr_report.proofs.gathering.Gathering.rest.Goals as goal

pub returns-in-Ok-clause-gathered : goal.returns-in-Ok-clause-gathered
returns-in-Ok-clause-gathered c = λ p text is.
    gathering_rests p text c.args.self.now _ c.in-Ok.steps c.in-Ok.ensures.ok c.rest.ensures.weighed refl refl refl refl
    refl is
