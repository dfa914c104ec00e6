use Rattle.chr_diagnosis.proofs.Proposed.{accepted_of_text}
use Rattle.chr_diagnosis.proofs.proposal.accepted_text.Goals as goal

pub returns-in-Ok : goal.returns-in-Ok
returns-in-Ok g c =
    accepted_of_text c.args.coverage c.args.text.now c.in-Ok.program c.accepted_program.result c.in-Ok.ensures
    c.accepted_program.ensures
