use Rattle.std.proofs.Common.{◌≡◌, ◌+◌, [], All, vec_len, vec_capacity, ◌≤◌}
use Rattle.chr_workers.specs.ClaimSeats.{IsFresh}
use Rattle.chr_workers.proofs.claims.counter.Claims.open.Given as goal

abbrev pub invariant-loop : goal.invariant-loop
invariant-loop l =
    (l.first.table_id ≡ l.table.shared.table_id)
    × (l.first.me.1 ≡ [])
    × (l.first.me.0.drawn ≡ [])
    × (l.first.me.0.over ≡ 0)
    × (l.first.me.0.limit ≡ l.parts)
    × (l.first.me.0.shares + vec_len l.fresh ≡ l.seats)
    × (vec_len l.fresh + 1 ≡ l.counter)
    × (l.seats ≤ vec_capacity l.fresh)
    × All (λ s. IsFresh record { name = l.table.shared.table_id; parts = l.parts; seats = l.seats } s) l.fresh.items
