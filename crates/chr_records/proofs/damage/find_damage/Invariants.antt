use Rattle.std.proofs.Common.{◌≡◌, ℕ, ◌+◌, ◌≤◌, List, length}
use Rattle.chr_records.specs.Damages.{HasMessages}
use Rattle.chr_records.proofs.damage.find_damage.Given as goal

abbrev pub invariant-loop-message : goal.invariant-loop-message
invariant-loop-message l =
    (messages : List (List ℕ))
    × HasMessages l.bytes messages l.rest
    × (length messages ≡ l.records)
    × (l.records + length l.rest ≤ length l.bytes)

abbrev pub decreases-loop-message : goal.decreases-loop-message
decreases-loop-message l = length l.rest
