use Rattle.std.proofs.Common.{◌∙◌, ap}
use Rattle.chr_answers.specs.Lines.{lines}
use Rattle.chr_answers.proofs.Feeds.{lines_more, lines_last}
use Rattle.chr_report.proofs.input.next_line.Goals as goal

pub returns-in-Some-clause-lines : goal.returns-in-Some-clause-lines
returns-in-Some-clause-lines c = ap lines c.in-Some.ensures.some
    ∙ lines_more c.in-Some.line.now c.in-Some.rest.now c.in-Some.ensures.unended

pub returns-in-None-clause-lines : goal.returns-in-None-clause-lines
returns-in-None-clause-lines c = lines_last c.args.bytes.now c.in-None.ensures.none
