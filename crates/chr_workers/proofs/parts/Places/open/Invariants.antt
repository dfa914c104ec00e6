use Rattle.std.proofs.Common.{◌≡◌, ◌≤◌, vec_len, vec_capacity}
use Rattle.chr_workers.proofs.parts.Places.open.Given as goal

abbrev pub invariant-loop : goal.invariant-loop
invariant-loop l =
    (vec_len l.waiting ≡ l.counter) × (vec_len l.results ≡ l.counter)
    × (l.parts ≤ vec_capacity l.waiting) × (l.parts ≤ vec_capacity l.results)
