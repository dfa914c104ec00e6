use Rattle.chr_records.proofs.Scans.{lines_are}
use Rattle.chr_records.proofs.laws.lines_are_records.Goals as goal

pub returns : goal.returns
returns c = lines_are
