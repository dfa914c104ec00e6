use Rattle.std.proofs.Common.{refl, sym, ◌∙◌}
use Rattle.chr_acts.specs.declared.act.Act.TheVariants as act
use Rattle.chr_worlds.specs.Answers.{settled_answer}
use Rattle.chr_worlds.specs.declared.event.Event.TheVariants as event
use Rattle.chr_worlds.specs.Sharing.{shared_program}
use Rattle.chr_answers.specs.Services.{served}
use Rattle.chr_answers.proofs.BetweenLines.{happens_ready, ready_for}
use Rattle.chr_answers.proofs.Settling.{settled_held, rested}
use Rattle.chr_answers.proofs.service.Service.settle_alone.Goals as goal

pub returns-clause-ready : goal.returns-clause-ready
returns-clause-ready c =
    let w = c.args.self.now.world in
    let settled = c.settle-settled in
    let v = settled.new.self in
    ready_for w.accepted v.accepted v.replicas settled.ensures.program
    (happens_ready c.runs_keep_replicas_sound.ensures (shared_program w) w.replicas
    (event.At c.args.replica act.Settle) (settled_answer settled.result) v.replicas tt settled.ensures.happens
    c.requires)

pub returns-clause-operations : goal.returns-clause-operations
returns-clause-operations c =
    let settled = c.settle-settled in
    settled_held (served c.args.self.now) c.args.self.now.world.replicas settled.new.self.replicas c.args.replica
    (settled_answer settled.result) settled.ensures.happens

pub returns-clause-rests : goal.returns-clause-rests
returns-clause-rests c = λ idle.
    let settled = c.settle-settled in
    rested c.args.self.now.world settled.new.self settled.new.self c.args.replica settled.result
    (sym c.was_stopped.ensures ∙ c.if-was_stopped.false) settled.ensures.program settled.ensures.happens refl idle
