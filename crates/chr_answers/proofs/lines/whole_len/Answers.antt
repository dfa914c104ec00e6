use Rattle.chr_answers.proofs.Feeds.{none_after, none_ends, whole_up_to}
use Rattle.chr_answers.proofs.lines.whole_len.Goals as goal

pub returns-in-Some-clause-whole : goal.returns-in-Some-clause-whole
returns-in-Some-clause-whole c =
    whole_up_to c.args.text.now c.in-Some.place c.in-Some.ensures.0.high c.in-Some.ensures.1

pub returns-in-Some-clause-unended : goal.returns-in-Some-clause-unended
returns-in-Some-clause-unended c = none_after c.args.text.now c.in-Some.place c.in-Some.ensures.0

pub returns-in-None-clause-unended : goal.returns-in-None-clause-unended
returns-in-None-clause-unended c = none_ends c.args.text.now c.in-None.ensures
