use Rattle.std.proofs.Common.{◌≡◌, ◌∙◌, ap, subst}
use Rattle.std.specs.Io.KnownBytes.{Appends}
use Rattle.chr_device.specs.declared.words.Verb.TheVariants.{Run}
use Rattle.chr_replica.proofs.Outcomes.{on_err}
use Rattle.chr_report.specs.Served.{AllAnswered}
use Rattle.chr_report.specs.Written.{Writes, WritesBeginning}
use Rattle.chr_report.proofs.Due.{all_due, beginning_written, output_written}
use Rattle.chr_report.proofs.serving.serve_asked.Goals as goal

pub answer_promptly-requires-clause-prompt : goal.answer_promptly-requires-clause-prompt
answer_promptly-requires-clause-prompt g c w a =
    let T = g.T.Peer in
    let p = c.new-coming.result in
    let from = T.unread c.args.wire.now in
    let old = T.sent c.args.wire.now in
    let asked = c.new-coming.ensures.asked in
    let run : p.asked.verb ≡ Run = ap (λ k. k.verb) asked ∙ c.requires.run in
    c.requires.prompt w (subst (λ k. AllAnswered from (T.unread w) old (T.sent w) k.wanted) asked
    (all_due p from (T.unread w) old (T.sent w) c.new-coming.ensures.none run a))

pub returns-in_err-answer_promptly-clause-err : goal.returns-in_err-answer_promptly-clause-err
returns-in_err-answer_promptly-clause-err g c =
    let T = g.T.Peer in
    let from = T.unread c.args.wire.now in
    let old = T.sent c.args.wire.now in
    let new = T.sent c.answer_promptly.new.wire in
    on_err c.from_residual.result (subst (λ k. WritesBeginning from old new k.verb k.wanted) c.new-coming.ensures.asked
    (beginning_written c.new-coming.result from old new c.new-coming.ensures.none c.in_err-answer_promptly.ensures.err))

pub returns-clause-ok : goal.returns-clause-ok
returns-clause-ok g c =
    let T = g.T.Peer in
    let from = T.unread c.args.wire.now in
    let old = T.sent c.args.wire.now in
    let new = T.sent c.answer_promptly.new.wire in
    subst (λ k. Writes from k.verb k.wanted c.end.result (Appends old new)) c.new-coming.ensures.asked
    (output_written c.new-coming.result c.answer_promptly.new.machine from c.end.result (Appends old new)
    c.new-coming.ensures.none c.end.ensures c.in_ok-answer_promptly.ensures.ok)
