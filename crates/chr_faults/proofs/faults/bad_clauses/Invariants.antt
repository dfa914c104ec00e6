use Rattle.chr_read.specs.ProgramTexts.{IsShort}
use Rattle.chr_faults.proofs.Firsts.{IsCompleted}
use Rattle.chr_faults.proofs.faults.bad_clauses.Given as goal

abbrev pub invariant-loop-gone : goal.invariant-loop-gone
invariant-loop-gone l = record {
  short : IsShort l.left.items;
  completed : IsCompleted l.gone l.text l.left.items l.bad.items;
}
