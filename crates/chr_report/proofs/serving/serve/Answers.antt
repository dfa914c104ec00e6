use Rattle.std.proofs.Common.{subst}
use Rattle.chr_device.specs.declared.words.Verb.TheVariants.{Run}
use Rattle.chr_report.specs.Written.{WritesBeginning}
use Rattle.chr_report.proofs.Pieces.{if_err}
use Rattle.chr_report.proofs.serving.serve.Goals as goal

pub returns-clause-err : goal.returns-clause-err
returns-clause-err g c =
    let T = g.T.Peer in
    let from = T.unread c.args.wire.now in
    let old = T.sent c.args.wire.now in
    let new = T.sent c.serve_asked.new.wire in
    if_err c.serve_asked.result (subst (WritesBeginning from old new Run) c.from_settings.ensures)
    c.serve_asked.ensures.err
