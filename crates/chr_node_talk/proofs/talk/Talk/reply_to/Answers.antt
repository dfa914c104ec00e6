use Rattle.std.proofs.Common.{subst}
use Rattle.chr_node_lines.specs.Asked.{request_view}
use Rattle.chr_node_lines.specs.declared.reply.Reply.TheVariants as reply
use Rattle.chr_node_talk.specs.Answers.{AskedAnswers}
use Rattle.chr_node_talk.specs.Moments.{Run}
use Rattle.chr_node_talk.specs.Talks.{moment_of}
use Rattle.chr_node_talk.proofs.Keeping.{same_run, stays_then}
use Rattle.chr_node_talk.proofs.talk.Talk.reply_to.Goals as goal

pub returns-in-Ok-clause-answers : goal.returns-in-Ok-clause-answers
returns-in-Ok-clause-answers g c =
    let now = moment_of g.H.Holder.operations c.hear_for.new.self in (
      now,
      c.hear_for.ensures.hears,
      subst (λ (r : Run). AskedAnswers r now (moment_of g.H.Holder.operations c.answer.new.self)
          (request_view c.args.request) c.in-Ok.reply)
          (same_run g.D.Disk.seen g.H.Holder.operations g.H.Holder.program g.F.Folder.is_clean c.args.self.now
          c.hear_for.new.self c.hear_for.ensures.stays)
          c.in-Ok.ensures.answers,
    )

pub returns-in-Ok-clause-stays : goal.returns-in-Ok-clause-stays
returns-in-Ok-clause-stays g c =
    stays_then g.D.Disk.seen g.H.Holder.operations g.H.Holder.program g.F.Folder.is_clean c.args.self.now
    c.hear_for.new.self c.answer.new.self c.hear_for.ensures.stays c.answer.ensures.stays

pub returns-in-Err-clause-answers : goal.returns-in-Err-clause-answers
returns-in-Err-clause-answers g c =
    let now = moment_of g.H.Holder.operations c.hear_for.new.self in (
      now,
      c.hear_for.ensures.hears,
      subst (λ (r : Run). AskedAnswers r now (moment_of g.H.Holder.operations c.answer.new.self)
          (request_view c.args.request) (reply.Refused c.in-Err.refusal))
          (same_run g.D.Disk.seen g.H.Holder.operations g.H.Holder.program g.F.Folder.is_clean c.args.self.now
          c.hear_for.new.self c.hear_for.ensures.stays)
          c.in-Err.ensures.refused,
    )

pub returns-in-Err-clause-stays : goal.returns-in-Err-clause-stays
returns-in-Err-clause-stays g c =
    stays_then g.D.Disk.seen g.H.Holder.operations g.H.Holder.program g.F.Folder.is_clean c.args.self.now
    c.hear_for.new.self c.answer.new.self c.hear_for.ensures.stays c.answer.ensures.stays
