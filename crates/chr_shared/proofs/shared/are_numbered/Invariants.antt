use Rattle.std.proofs.Common.{◌≡◌, ◌<◌, ◌+◌, ℕ}
use Rattle.std.specs.Prelude.{slice_index_or}
use Rattle.chr_shared.specs.Openings.{SeatView}
use Rattle.chr_shared.proofs.shared.are_numbered.Given as goal

abbrev pub invariant-loop-k : goal.invariant-loop-k
invariant-loop-k g l = (j : ℕ) (d : SeatView) → j < l.k → (slice_index_or l.seats j d).number ≡ j + 1
