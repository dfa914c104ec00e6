use Rattle.chr_worlds.specs.Sharing.{shared_program}
use Rattle.chr_answers.proofs.BetweenLines.{first_ready, first_told}
use Rattle.chr_answers.proofs.service.Service.open.Goals as goal

pub returns-clause-ready : goal.returns-clause-ready
returns-clause-ready c =
    first_ready c.events_keep_replicas_sound.ensures.first (shared_program c.in_ok-open.field-0) c.args.replicas
    c.in_ok-open.field-0.replicas c.in_ok-open.ensures.replicas

pub returns-clause-operations : goal.returns-clause-operations
returns-clause-operations c = first_told c.args.replicas c.in_ok-open.field-0.replicas c.in_ok-open.ensures.replicas
