use Rattle.std.proofs.Common.{◌∙◌}
use Rattle.std.specs.Prelude.{Ok}
use Rattle.std.specs.declared.alloc.AllocError.{AllocError}
use Rattle.chr_worlds.specs.Answers.{merged_answer}
use Rattle.chr_worlds.specs.declared.event.Event.TheVariants as event
use Rattle.chr_answers.specs.Services.{held, served}
use Rattle.chr_answers.proofs.BetweenLines.{act_ready}
use Rattle.chr_answers.proofs.Merging.{synced}
use Rattle.chr_answers.proofs.service.Service.sync.Goals as goal

pub rest_by_schedule-requires : goal.rest_by_schedule-requires
rest_by_schedule-requires g c = (
  c.type_bounds.sync-R,
  act_ready {E = AllocError} c.runs_keep_replicas_sound.ensures c.args.self.now.world.accepted
      c.sync.new.self.accepted c.args.self.now.world.replicas c.sync.new.self.replicas
      (event.Sync c.args.from c.args.to) (Ok (merged_answer c.in_ok-synced.synced)) tt c.sync.ensures.program
      c.in_ok-synced.ensures.happens c.requires,
)

pub returns-clause-answered : goal.returns-clause-answered
returns-clause-answered g c =
    record {
      program = c.in_ok-rest_by_schedule.ensures.program ∙ c.sync.ensures.program;
      answer =
          synced (served c.args.self.now) c.args.self.now.world.replicas c.sync.new.self.replicas
          (held c.rest_by_schedule.new.self) c.args.from c.args.to c.in_ok-synced.synced c.synced.result
          c.requires c.in_ok-synced.ensures.happens c.in_ok-rest_by_schedule.ensures.operations c.synced.ensures;
    }
