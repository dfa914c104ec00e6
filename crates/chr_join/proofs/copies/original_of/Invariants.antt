use Rattle.std.specs.Bool.{⊤}
use Rattle.chr_join.proofs.copies.original_of.Given as goal

abbrev pub invariant-loop-earlier : goal.invariant-loop-earlier
invariant-loop-earlier l = ⊤
