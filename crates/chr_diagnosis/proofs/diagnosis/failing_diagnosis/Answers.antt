use Rattle.std.proofs.Common.{ap}
use Rattle.chr_weights.specs.WeighedPrograms.{program_of}
use Rattle.chr_diagnosis.proofs.diagnosis.failing_diagnosis.Goals as goal

pub returns-in-Ok : goal.returns-in-Ok
returns-in-Ok c = (
  ap program_of c.in-Ok.ensures.weighed,
  c.args.weighed.lowers,
  c.in-Ok.ensures.peak c.args.coverage c.requires.first,
)
