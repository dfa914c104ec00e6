use Rattle.std.proofs.Common.{rules, arith, ◌<◌}
use Rattle.chr_workers.proofs.ClaimMoves.{deals}
use Rattle.chr_workers.proofs.claims.counter.Claims.open.Goals as goal

pub split_seat-seat-requires : goal.split_seat-seat-requires
split_seat-seat-requires c =
    let i = c.loop.invariant in
    let room : 1 < c.loop.first.me.0.shares = omega arith in
    (i.0, search rules, deals _ _ _ room i.3 i.2)
