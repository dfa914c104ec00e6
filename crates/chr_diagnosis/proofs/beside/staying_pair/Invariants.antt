use Rattle.std.specs.Prelude.{take}
use Rattle.std.specs.List.{All}
use Rattle.chr_diagnosis.specs.Beside.{StaysApart}
use Rattle.chr_diagnosis.proofs.beside.staying_pair.Given as goal

abbrev pub invariant-loop-pair : goal.invariant-loop-pair
invariant-loop-pair l = All (λ p. ¬ StaysApart l.apart p) (take l.pair-index l.pairs)
