use Rattle.std.proofs.Common.{◌≤◌, length}
use Rattle.chr_node_files.proofs.reading.fill_from.Given as goal

abbrev pub invariant-loop : goal.invariant-loop
invariant-loop l = l.done ≤ length l.buf
