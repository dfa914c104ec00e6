use Rattle.std.proofs.Common.{◌≡◌, ℕ, ◌<◌, get_or}
use Rattle.chr_plans.specs.Seats.{seat}
use Rattle.chr_plans.specs.working.Searching.{looked_in}
use Rattle.chr_plans.proofs.search.is_taken.Given as goal

abbrev pub invariant-loop-lookup : goal.invariant-loop-lookup
invariant-loop-lookup l = (j : ℕ) → j < l.lookup-index → seat l.seats (get_or (looked_in l.lookups) j 0) ≡ l.row → ⊥
