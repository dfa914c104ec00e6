use Rattle.std.proofs.Common.{sym, subst}
use Rattle.chr_join.specs.AcceptedPrograms.{program_in}
use Rattle.chr_worlds.specs.Sharing.{shared_program}
use Rattle.chr_worlds.specs.Worlds.{IsAt}
use Rattle.chr_replica.specs.Replicas.{Replica, IsSettled}
use Rattle.chr_answers.specs.Services.{served}
use Rattle.chr_answers.proofs.BetweenLines.{ready_for}
use Rattle.chr_answers.proofs.Rests.{rests_held, rests_ready, rests_at}
use Rattle.chr_answers.proofs.service.Service.settle_shared.Goals as goal

pub returns-clause-ready : goal.returns-clause-ready
returns-clause-ready g c =
    let w = c.args.self.now.world.replicas in
    let v = c.rest.new.self.replicas in
    let p = served c.args.self.now in
    ready_for c.args.self.now.world.accepted c.rest.new.self.accepted v c.rest.ensures.program
    (rests_ready p w v c.args.replica c.in_ok-rest.ensures.rests c.requires)

pub returns-clause-operations : goal.returns-clause-operations
returns-clause-operations g c =
    rests_held (served c.args.self.now) c.args.self.now.world.replicas c.rest.new.self.replicas
    c.args.replica c.in_ok-rest.ensures.rests

pub returns-clause-rests : goal.returns-clause-rests
returns-clause-rests g c =
    let w = c.args.self.now.world in
    let v = c.rest.new.self in
    subst (λ a. (t : Replica) → IsAt v.replicas c.args.replica t → IsSettled (program_in a) t)
    (sym c.rest.ensures.program)
    (rests_at (shared_program w) w.replicas v.replicas c.args.replica c.in_ok-rest.ensures.rests)
