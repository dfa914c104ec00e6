use Rattle.std.proofs.Common.{◌≡◌, length, take}
use Rattle.chr_printing.proofs.flat.row_of.Given as goal

abbrev pub invariant-loop-j : goal.invariant-loop-j
invariant-loop-j l = (take l.j l.row ≡ take l.j l.values) × (length l.row ≡ 3)
