use Rattle.std.proofs.Common.{take}
use Rattle.chr_base.specs.Programs.{declarations}
use Rattle.chr_printing.specs.working.Printing.{all_atoms, Rises}
use Rattle.chr_printing.proofs.turns.are_in_order.Given as goal

abbrev pub invariant-loop-turn : goal.invariant-loop-turn
invariant-loop-turn l = Rises (declarations l.program) (all_atoms (take l.turn-index l.turns)) l.last
