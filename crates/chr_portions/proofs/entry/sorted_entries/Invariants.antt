use Rattle.std.proofs.Common.{◌≡◌, vec_len}
use Rattle.chr_portions.proofs.entry.sorted_entries.Given as goal

abbrev pub invariant-loop-place : goal.invariant-loop-place
invariant-loop-place l = vec_len l.entries ≡ l.place
