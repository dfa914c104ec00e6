use Rattle.std.proofs.Common.{All, sym, subst, ◌∙◌}
use Rattle.std.specs.Prelude.{Ok}
use Rattle.std.specs.declared.alloc.AllocError.{AllocError}
use Rattle.chr_base.specs.Programs.{declarations}
use Rattle.chr_replica.specs.Replicas.{IsDeclared}
use Rattle.chr_acts.specs.declared.act.Act.TheVariants as act
use Rattle.chr_worlds.specs.Answers.{merged_answer}
use Rattle.chr_worlds.specs.declared.event.Event.TheVariants as event
use Rattle.chr_answers.specs.Answers.{AnswersAt, AnswersMerge}
use Rattle.chr_answers.specs.working.ReplyTexts.{reply_text}
use Rattle.chr_answers.specs.Services.{held, served}
use Rattle.chr_answers.proofs.BetweenLines.{act_ready}
use Rattle.chr_answers.proofs.Merging.{merged}
use Rattle.chr_answers.proofs.service.Service.merge.Goals as goal

pub rest_by_schedule-requires : goal.rest_by_schedule-requires
rest_by_schedule-requires g c = (
  c.type_bounds.sync-R,
  act_ready {E = AllocError} c.runs_keep_replicas_sound.ensures c.args.self.now.world.accepted
      c.merge.new.self.accepted c.args.self.now.world.replicas c.merge.new.self.replicas
      (event.At c.args.replica (act.Merge c.deref.result.now)) (Ok (merged_answer c.in_ok-merged.merged)) tt
      c.merge.ensures.program c.in_ok-merged.ensures.happens c.requires.ready,
)

pub returns-clause-answered : goal.returns-clause-answered
returns-clause-answered g c =
    let p = served c.args.self.now in
    record {
      program = c.in_ok-rest_by_schedule.ensures.program ∙ c.merge.ensures.program;
      answer =
          subst (λ os. AnswersAt (held c.args.self.now) c.args.replica (AnswersMerge os)
          (reply_text (declarations p) c.merged.result) (held c.rest_by_schedule.new.self))
          c.deref.ensures.value
          (merged p c.args.self.now.world.replicas c.merge.new.self.replicas (held c.rest_by_schedule.new.self)
          c.args.replica c.deref.result.now c.in_ok-merged.merged c.merged.result
          (subst (All (IsDeclared p)) (sym c.deref.ensures.value) c.requires.declared) c.in_ok-merged.ensures.happens
          c.in_ok-rest_by_schedule.ensures.operations c.merged.ensures);
    }
