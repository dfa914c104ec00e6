use Rattle.std.proofs.Common.{◌≡◌, ℕ, ◌+◌, ◌<◌, get_or, true}
use Rattle.chr_base.specs.declared.atom.Atom.{Atom}
use Rattle.chr_base.specs.working.Runs.{are_alike}
use Rattle.chr_base.proofs.runs.run_len.Given as goal

abbrev pub invariant-loop-i : goal.invariant-loop-i
invariant-loop-i l = (k : ℕ) (d : Atom) → k + 1 < l.i → are_alike (get_or l.atoms k d) (get_or l.atoms (k + 1) d) ≡ true
