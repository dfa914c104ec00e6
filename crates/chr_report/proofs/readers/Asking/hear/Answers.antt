use Rattle.chr_join.specs.AcceptedPrograms.{program_in}
use Rattle.chr_report.specs.working.BlockLines.{lines_of}
use Rattle.chr_report.proofs.readers.Asking.hear.Goals as goal

pub returns-in_default-clause-ahead : goal.returns-in_default-clause-ahead
returns-in_default-clause-ahead g c =
    c.none.ensures (program_in c.args.self.now.accepted.now) (lines_of c.args.block.now)

pub returns-in-None-clause-ahead : goal.returns-in-None-clause-ahead
returns-in-None-clause-ahead g c =
    c.none-in-None.ensures (program_in c.args.self.now.accepted.now) (lines_of c.args.block.now)
