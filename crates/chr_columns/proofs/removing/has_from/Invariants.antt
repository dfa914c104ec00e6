use Rattle.std.proofs.Common.{◌≡◌, ◌+◌, ◌++◌, take}
use Rattle.chr_columns.proofs.removing.has_from.Given as goal

abbrev pub invariant-loop-i : goal.invariant-loop-i
invariant-loop-i l = take (l.start + l.i) l.items ≡ take l.start l.items ++ take l.i l.atoms
