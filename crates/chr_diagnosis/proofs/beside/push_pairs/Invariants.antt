use Rattle.std.specs.List.{All}
use Rattle.chr_weights.specs.WeighedPrograms.{rules_in}
use Rattle.chr_diagnosis.specs.Beside.{IsPairOf}
use Rattle.chr_diagnosis.proofs.beside.push_pairs.Given as goal

abbrev pub invariant-loop-second : goal.invariant-loop-second
invariant-loop-second l = All (IsPairOf (rules_in l.weighed) l.symbol) l.pairs.items
