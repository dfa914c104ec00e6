use Rattle.std.proofs.Common.{ℕ, ◌+◌, ◌<◌, List, get_or}
use Rattle.std.specs.Borrow.{Bor}
use Rattle.chr_base.specs.declared.atom.Atom.{Atom}
use Rattle.chr_base.specs.Programs.{declarations}
use Rattle.chr_base.specs.working.Runs.{Precedes}
use Rattle.chr_base.proofs.runs.are_apart.Given as goal

abbrev pub invariant-loop-i : goal.invariant-loop-i
invariant-loop-i l = (k : ℕ) (d : Bor (List Atom)) → k + 1 < l.i → Precedes (declarations l.program)
    (get_or l.runs k d).now (get_or l.runs (k + 1) d).now
