use Rattle.chr_weights.specs.WeighedPrograms.{program_of}
use Rattle.chr_diagnosis.proofs.Proposed.{accepted_where}
use Rattle.chr_diagnosis.proofs.proposal.accepted_program.Goals as goal

pub returns-in-Ok : goal.returns-in-Ok
returns-in-Ok g c =
    accepted_where c.args.coverage (program_of c.in-Ok.weighed) c.args.program c.accepted_weighed.result
    c.in-Ok.ensures.ok c.accepted_weighed.ensures
