use Rattle.chr_columns.specs.working.Groups.{AreOthers}
use Rattle.chr_columns.proofs.groups.first_of.Given as goal

abbrev pub invariant-loop-i : goal.invariant-loop-i
invariant-loop-i l = AreOthers l.groups l.symbol l.i
