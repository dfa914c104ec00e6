use Rattle.chr_answers.proofs.LineLaws.{feed_at, no_feed}
use Rattle.chr_answers.proofs.lines.line_len.Goals as goal

pub returns-in-Some-clause-value : goal.returns-in-Some-clause-value
returns-in-Some-clause-value c = feed_at c.args.bytes.now c.in-Some.place (c.in-Some.ensures.0) (c.in-Some.ensures.1)

pub returns-in-None-clause-value : goal.returns-in-None-clause-value
returns-in-None-clause-value c = no_feed c.args.bytes.now c.in-None.ensures
