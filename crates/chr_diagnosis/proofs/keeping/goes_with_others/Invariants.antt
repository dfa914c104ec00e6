use Rattle.std.specs.Prelude.{take}
use Rattle.std.specs.List.{All}
use Rattle.chr_diagnosis.specs.Proposals.{GoesOrIsOf}
use Rattle.chr_diagnosis.proofs.keeping.goes_with_others.Given as goal

abbrev pub invariant-loop-other : goal.invariant-loop-other
invariant-loop-other l = All (GoesOrIsOf l.proposal l.store) (take l.other-index l.proposals)
