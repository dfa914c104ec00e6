use Rattle.std.proofs.Common.{◌≡◌, ◌<◌, vec_len, All}
use Rattle.chr_shared.specs.Tie.{IsBySeat}
use Rattle.chr_shared.specs.Seats.{HasOwn}
use Rattle.chr_shared.proofs.shared.Shared.close.Given as goal

abbrev pub invariant-loop-seat : goal.invariant-loop-seat
invariant-loop-seat g l =
    (l.locked ≡ l.initial.locked)
    × (All (HasOwn l.initial.locked.entries) l.seats.items → All (HasOwn l.initial.locked.entries) l.fn.seats.items)
    × (vec_len l.seats < vec_len l.fn.seats → All (IsBySeat g.J.Naming.opening.seats) l.initial.locked.entries)

abbrev pub decreases-loop-seat : goal.decreases-loop-seat
decreases-loop-seat g l = goal.left-loop-seat g l
