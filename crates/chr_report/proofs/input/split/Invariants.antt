use Rattle.chr_report.proofs.Cutting.{slice_size}
use Rattle.chr_report.proofs.Cutting.{Cut}
use Rattle.chr_report.proofs.input.split.Given as goal

abbrev pub invariant-loop-next : goal.invariant-loop-next
invariant-loop-next l = Cut l.input l.next

abbrev pub decreases-loop-next : goal.decreases-loop-next
decreases-loop-next l = slice_size l.next
