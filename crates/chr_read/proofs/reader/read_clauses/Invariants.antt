use Rattle.std.proofs.Common.{◌≡◌, ◌+◌, ◌≤◌, length}
use Rattle.chr_syntax.specs.Bytes.{pieces}
use Rattle.chr_read.specs.Meanings.{nothing}
use Rattle.chr_read.specs.working.TextsRead.{pieces_read}
use Rattle.chr_read.specs.working.Views.{progress_of}
use Rattle.chr_read.proofs.reader.read_clauses.Given as goal

abbrev pub invariant-loop-clause : goal.invariant-loop-clause
invariant-loop-clause l = record {
  counted : l.number + length l.rest ≤ length l.text + 1;
  read : pieces_read l.number (progress_of l.reader) (pieces l.rest) ≡ pieces_read 1 nothing (pieces l.text);
}

abbrev pub decreases-loop-clause : goal.decreases-loop-clause
decreases-loop-clause l = length l.rest
