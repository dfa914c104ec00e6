use Rattle.std.proofs.Common.{[], refl, sym, subst}
use Rattle.std.specs.Prelude.{Ok, Some, string_bytes}
use Rattle.std.specs.Io.KnownBytes.{Appends}
use Rattle.chr_device.specs.Devices.{inner_of}
use Rattle.chr_join.specs.AcceptedPrograms.{program_in}
use Rattle.chr_read.specs.ProgramTexts.{IsAnswer}
use Rattle.chr_report.specs.declared.judging.Judged.TheVariants as judged
use Rattle.chr_report.specs.declared.running.Status.TheVariants.{Accepted}
use Rattle.chr_report.specs.working.Judged.{IsJudgedText}
use Rattle.chr_report.specs.working.Serving.{WritesText}
use Rattle.chr_report.proofs.Conversing.{refused_written, text_written}
use Rattle.chr_report.proofs.running.output_of_text.Goals as goal

pub returns-in_ok-text-in-Accepted-clause-ok : goal.returns-in_ok-text-in-Accepted-clause-ok
returns-in_ok-text-in-Accepted-clause-ok g c =
    let text = c.args.text.now in
    let known = g.D.Read.remaining (inner_of c.args.reader.now) in
    let written = Appends (Some []) (Some (string_bytes c.in_ok-text-in-Accepted.text)) in
    let j : IsJudgedText c.args.wanted.coverage text (judged.Accepted c.in-Accepted.accepted) =
    subst (IsJudgedText c.args.wanted.coverage text) c.in-Accepted.is c.in_ok-accepted.ensures in
    text_written text c.args.first.now known c.args.wanted (Ok (program_in c.in-Accepted.accepted)) Accepted written
    (subst (IsAnswer text) j.2.0 j.1) c.in_ok-text-in-Accepted.ensures.ok

pub returns-in_ok-read_rest-in-Refused-clause-ok : goal.returns-in_ok-read_rest-in-Refused-clause-ok
returns-in_ok-read_rest-in-Refused-clause-ok g c =
    let text = c.args.text.now in
    let first = c.args.first.now in
    let known = g.D.Read.remaining (inner_of c.args.reader.now) in
    let result = c.refused.result in
    let written = Appends (Some []) (Some (string_bytes result.text)) in
    let j : IsJudgedText c.args.wanted.coverage text (judged.Refused c.in-Refused.line) =
    subst (IsJudgedText c.args.wanted.coverage text) c.in-Refused.is c.in_ok-accepted.ensures in
    subst (λ s. WritesText (IsAnswer text) first known c.args.wanted s written) (sym c.refused.ensures.status)
    (refused_written text first known c.args.wanted j.0 (string_bytes c.in-Refused.line) written j.1 j.2
    (subst (λ t. Appends (Some []) (Some (string_bytes t)) (string_bytes c.in-Refused.line))
    (sym c.refused.ensures.text) refl))
