use Rattle.std.proofs.Common.{◌∙◌}
use Rattle.std.specs.Prelude.{Ok}
use Rattle.std.specs.declared.alloc.AllocError.{AllocError}
use Rattle.chr_acts.specs.declared.act.Act.TheVariants as act
use Rattle.chr_worlds.specs.Answers.{told_answer}
use Rattle.chr_worlds.specs.declared.event.Event.TheVariants as event
use Rattle.chr_answers.specs.Services.{held, served}
use Rattle.chr_answers.proofs.BetweenLines.{act_ready}
use Rattle.chr_answers.proofs.Telling.{told}
use Rattle.chr_answers.proofs.service.Service.tell.Goals as goal

pub rest_by_schedule-requires : goal.rest_by_schedule-requires
rest_by_schedule-requires g c = (
  c.type_bounds.sync-R,
  act_ready {E = AllocError} c.runs_keep_replicas_sound.ensures c.args.self.now.world.accepted
      c.tell.new.self.accepted c.args.self.now.world.replicas c.tell.new.self.replicas
      (event.At c.args.replica (act.Tell c.args.op)) (Ok (told_answer c.in_ok-told.told)) tt c.tell.ensures.program
      c.in_ok-told.ensures.happens c.requires.ready,
)

pub returns-clause-answered : goal.returns-clause-answered
returns-clause-answered g c =
    record {
      program = c.in_ok-rest_by_schedule.ensures.program ∙ c.tell.ensures.program;
      answer =
          told (served c.args.self.now) c.args.self.now.world.replicas c.tell.new.self.replicas
          (held c.rest_by_schedule.new.self) c.args.replica c.args.op c.in_ok-told.told c.told.result
          c.requires.declared c.in_ok-told.ensures.happens c.in_ok-rest_by_schedule.ensures.operations c.told.ensures;
    }
