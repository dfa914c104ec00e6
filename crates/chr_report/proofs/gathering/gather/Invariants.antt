use Rattle.chr_join.specs.AcceptedPrograms.{program_in}
use Rattle.chr_report.specs.working.Gathered.{IsGathered}
use Rattle.chr_report.proofs.gathering.gather.Given as goal

abbrev pub invariant-loop-gathering : goal.invariant-loop-gathering
invariant-loop-gathering l = IsGathered (program_in l.accepted) l.text l.gathering

abbrev pub decreases-loop-gathering : goal.decreases-loop-gathering
decreases-loop-gathering l = l.gathering.more
