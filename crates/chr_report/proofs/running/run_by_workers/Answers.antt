use Rattle.std.proofs.Common.{inr, rules}
use Rattle.std.specs.Prelude.{string_bytes}
use Rattle.std.specs.Io.KnownBytes.{Appends}
use Rattle.chr_device.specs.Devices.{AppendsPart, inner_of}
use Rattle.chr_device.specs.declared.words.Verb.TheVariants.{Run}
use Rattle.chr_report.proofs.Outcomes.{output_written}
use Rattle.chr_replica.proofs.Outcomes.{on_err}
use Rattle.chr_report.proofs.running.run_by_workers.Goals as goal

pub returns-clause-ok : goal.returns-clause-ok
returns-clause-ok g c =
    let output = c.in_ok-output.output in
    let from = g.R.Read.remaining (inner_of c.args.reader.now) in
    let old = g.W.Write.contents (inner_of c.args.writer.now) in
    let new = g.W.Write.contents (inner_of c.write_whole.new.writer) in
    output_written from Run c.args.wanted output.status (string_bytes output.text) c.as_bytes.result.now
    (Appends old new) c.in_ok-output.ensures.ok (search rules) c.in_ok-write_whole.ensures.ok

pub returns-in_err-write_whole-clause-err : goal.returns-in_err-write_whole-clause-err
returns-in_err-write_whole-clause-err g c = on_err c.from_residual-in_err-write_whole.result (
    let output = c.in_ok-output.output in
    let from = g.R.Read.remaining (inner_of c.args.reader.now) in
    let old = g.W.Write.contents (inner_of c.args.writer.now) in
    let new = g.W.Write.contents (inner_of c.write_whole.new.writer) in
    inr (
      output.status,
      output_written from Run c.args.wanted output.status (string_bytes output.text) c.as_bytes.result.now
          (AppendsPart old new) c.in_ok-output.ensures.ok (search rules) c.in_err-write_whole.ensures.err,
    ))
