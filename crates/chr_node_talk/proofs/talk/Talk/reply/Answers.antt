use Rattle.std.proofs.Common.{◌≡◌, Ok, sym, ap, ◌∙◌}
use Rattle.chr_base.specs.declared.program.Program.{Program}
use Rattle.chr_base.specs.Programs.{declarations}
use Rattle.chr_ops.specs.declared.id.OpId.{OpId}
use Rattle.chr_node_lines.specs.Asked.{line_asks, request_view}
use Rattle.chr_node_lines.specs.declared.reply.Reply.{Reply}
use Rattle.chr_node_talk.specs.Answers.{AskedAnswers}
use Rattle.chr_node_talk.specs.Lines.{AnswersLine}
use Rattle.chr_node_talk.specs.Moments.{Moment, Hears, next_id}
use Rattle.chr_node_talk.specs.Talks.{moment_of, run_of}
use Rattle.chr_node_talk.proofs.Turns.{if_ok, line_heard, line_refused}
use Rattle.chr_node_talk.proofs.talk.Talk.reply.Goals as goal

pub returns-in-Ok-clause-answers : goal.returns-in-Ok-clause-answers
returns-in-Ok-clause-answers g c =
    let old = c.args.self.now in
    let r = run_of g.H.Holder.program old in
    let before = moment_of g.H.Holder.operations old in
    let after = moment_of g.H.Holder.operations c.reply_to.new.self in
    let line = c.args.line.now in
    let asked = request_view c.in-Ok.request in
    let is : line_asks (declarations r.program) (next_id r before) line ≡ Ok asked =
    sym (ap (λ (p : Program). line_asks (declarations p) (next_id r before) line) c.program.ensures)
    ∙ sym (ap (λ (i : OpId). line_asks (declarations c.program.result.now) i line) c.next_id-id.ensures)
    ∙ c.in-Ok.ensures in
    if_ok (λ (p : Reply). (now : Moment) × Hears before now × AskedAnswers r now after asked p)
    (λ (p : Reply). AnswersLine r before line p after) c.reply_to.result
    (λ p h. line_heard r before h.0 after line (Ok asked) p is h.1 h.2) c.reply_to.ensures.answers

pub returns-in-Err-clause-answers : goal.returns-in-Err-clause-answers
returns-in-Err-clause-answers g c =
    let old = c.args.self.now in
    let r = run_of g.H.Holder.program old in
    let before = moment_of g.H.Holder.operations old in
    let line = c.args.line.now in
    let is : line_asks (declarations r.program) (next_id r before) line
    ≡ line_asks (declarations c.program.result.now) c.next_id-id.result line =
    sym (ap (λ (p : Program). line_asks (declarations p) (next_id r before) line) c.program.ensures)
    ∙ sym (ap (λ (i : OpId). line_asks (declarations c.program.result.now) i line) c.next_id-id.ensures) in
    line_refused r before line (line_asks (declarations c.program.result.now) c.next_id-id.result line)
    c.in-Err.refusal is c.in-Err.ensures
