use Rattle.std.specs.List.{All}
use Rattle.chr_weights.specs.WeighedPrograms.{rules_in}
use Rattle.chr_diagnosis.specs.Beside.{IsPairOf}
use Rattle.chr_diagnosis.proofs.beside.pairs_beside.Given as goal

abbrev pub invariant-loop-place : goal.invariant-loop-place
invariant-loop-place l = All (IsPairOf (rules_in l.weighed) l.symbol) l.pairs.items
