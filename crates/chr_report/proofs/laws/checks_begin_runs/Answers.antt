use Rattle.chr_report.proofs.Checks.{checks_begin_runs}
use Rattle.chr_report.proofs.laws.checks_begin_runs.Goals as goal

pub returns : goal.returns
returns c = checks_begin_runs
