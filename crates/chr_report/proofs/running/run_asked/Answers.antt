use Rattle.std.proofs.Common.{subst}
use Rattle.std.specs.Io.KnownBytes.{Appends}
use Rattle.chr_device.specs.Devices.{inner_of}
use Rattle.chr_replica.proofs.Outcomes.{on_err}
use Rattle.chr_report.specs.Written.{Writes, WritesBeginning}
use Rattle.chr_report.proofs.Due.{beginning_written, output_written}
use Rattle.chr_report.proofs.running.run_asked.Goals as goal

pub returns-in_err-answer_at_end-clause-err : goal.returns-in_err-answer_at_end-clause-err
returns-in_err-answer_at_end-clause-err g c =
    let from = g.R.Read.remaining (inner_of c.args.reader.now) in
    let old = g.W.Write.contents (inner_of c.args.writer.now) in
    let new = g.W.Write.contents (inner_of c.answer_at_end.new.writer) in
    on_err c.from_residual.result (subst (λ k. WritesBeginning from old new k.verb k.wanted) c.new-coming.ensures.asked
    (beginning_written c.new-coming.result from old new c.new-coming.ensures.none c.in_err-answer_at_end.ensures.err))

pub returns-clause-ok : goal.returns-clause-ok
returns-clause-ok g c =
    let from = g.R.Read.remaining (inner_of c.args.reader.now) in
    let old = g.W.Write.contents (inner_of c.args.writer.now) in
    let new = g.W.Write.contents (inner_of c.answer_at_end.new.writer) in
    subst (λ k. Writes from k.verb k.wanted c.end.result (Appends old new)) c.new-coming.ensures.asked
    (output_written c.new-coming.result c.answer_at_end.new.machine from c.end.result (Appends old new)
    c.new-coming.ensures.none c.end.ensures c.in_ok-answer_at_end.ensures.ok)
