use Rattle.std.specs.Prelude.{◌≡◌, ◌++◌, string_bytes}
use Rattle.chr_answers.specs.working.ReplyTexts.{told_lines}
use Rattle.chr_answers.proofs.answering.push_told.Given as goal

abbrev pub invariant-loop-line : goal.invariant-loop-line
invariant-loop-line l = string_bytes l.out ≡ string_bytes l.fn.out ++ told_lines l._line
