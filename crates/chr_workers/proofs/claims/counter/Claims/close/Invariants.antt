use Rattle.std.proofs.Common.{◌≡◌, ℕ, ◌+◌, ◌<◌, All, vec_len, sum_by, count_by}
use Rattle.chr_workers.specs.Claiming.{times}
use Rattle.chr_workers.specs.ClaimSeats.{IsOf}
use Rattle.chr_workers.proofs.claims.counter.Claims.close.Given as goal

abbrev pub invariant-loop-one : goal.invariant-loop-one
invariant-loop-one l =
    (l.all.table_id ≡ l.table.shared.table_id)
    × (0 < l.all.me.0.shares)
    × (l.all.me.0.shares + vec_len l.seats ≡ l.table.shared.key.seats)
    × All (λ s. IsOf l.fn.self s) l.seats.items
    × ((x : ℕ) → times x l.all.me.0.drawn + sum_by (λ s. times x s.numbers) l.seats.items
    ≡ sum_by (λ s. times x s.numbers) l.fn.seats.items)
    × (l.all.me.0.over + count_by (λ s. s.spent) l.seats.items ≡ count_by (λ s. s.spent) l.fn.seats.items)

abbrev pub decreases-loop-one : goal.decreases-loop-one
decreases-loop-one l = goal.left-loop-one l
