use Rattle.chr_report.proofs.Comes.{nothing_come}
use Rattle.chr_report.proofs.coming.Coming.new.Goals as goal

pub returns-clause-none : goal.returns-clause-none
returns-clause-none g c =
    nothing_come c.args.asked c.new-text.result c.new-line.result c.new-text.ensures.items c.new-line.ensures.items
