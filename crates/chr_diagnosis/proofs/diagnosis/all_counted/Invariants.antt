use Rattle.chr_base.specs.Programs.{rules_of}
use Rattle.chr_join.specs.AcceptedPrograms.{program_in}
use Rattle.chr_diagnosis.proofs.Counting.{AreCountedTo}
use Rattle.chr_diagnosis.proofs.diagnosis.all_counted.Given as goal

abbrev pub invariant-loop-place : goal.invariant-loop-place
invariant-loop-place g l =
    AreCountedTo l.fn.coverage (rules_of (program_in l.fn.accepted)) l.place l.overlap-items l.counts.items
