use Rattle.std.proofs.Common.{take}
use Rattle.std.specs.Prelude.{string_bytes}
use Rattle.chr_base.specs.Programs.{declarations}
use Rattle.chr_printing.specs.working.Printing.{all_atoms, IsWritten}
use Rattle.chr_printing.proofs.turns.push_turns.Given as goal

abbrev pub invariant-loop-turn : goal.invariant-loop-turn
invariant-loop-turn l =
    IsWritten (declarations l.program) (string_bytes l.fn.out) (all_atoms (take l.turn-index l.turns)) l.started
    (string_bytes l.out)
