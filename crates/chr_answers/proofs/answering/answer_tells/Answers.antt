use Rattle.std.proofs.Common.{rules, ◌≡◌, ◌++◌, ◌∙◌, ap, length, subst}
use Rattle.std.specs.Prelude.{string_bytes}
use Rattle.chr_answers.specs.declared.answering.Answering.{Answering}
use Rattle.chr_answers.specs.Gathered.{TellFirst}
use Rattle.chr_answers.specs.working.Obeying.{HoldsMore}
use Rattle.chr_answers.specs.working.ReplyTexts.{told_lines}
use Rattle.chr_answers.specs.Services.{held, served}
use Rattle.chr_answers.proofs.ToldAhead.{told_ahead}
use Rattle.chr_answers.proofs.answering.answer_tells.Goals as goal

pub returns-clause-goes : goal.returns-clause-goes
returns-clause-goes g c =
    let p = served c.args.at.now.service in
    let text = c.args.text.now in
    let tells = c.args.tells.now in
    let ops = tells.ops.items in
    let t : Answering = record {
      service = c.tell_rested.new.self;
      out = c.push_told.new.out;
      left = tells.more;
    } in
    let more : HoldsMore p (held c.args.at.now.service) tells.replica ops (held c.tell_rested.new.self) =
    search rules in
    let count : c.len.result ≡ length ops = search rules in
    told_ahead text c.args.at.now t tells.replica ops
    (subst (λ n. TellFirst p text tells.replica n ops tells.more) c.requires.first c.requires.tells.lines) more
    c.in_ok-tell_rested.ensures.ready c.tell_rested.ensures.program
    (c.in_ok-push_told.ensures ∙ ap (λ n. string_bytes c.args.at.now.out ++ told_lines n) count)
