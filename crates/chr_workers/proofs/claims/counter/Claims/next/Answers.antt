use Rattle.std.proofs.Common.{rules, arith, ◌<◌}
use Rattle.std.proofs.lemmas.Bool.Decides.{nat_tests}
use Rattle.chr_workers.proofs.ClaimMoves.{draws_as}
use Rattle.chr_workers.proofs.claims.counter.Claims.next.Goals as goal

pub fetch_add-number-requires : goal.fetch_add-number-requires
fetch_add-number-requires c =
    let i = c.seat.invariant in
    let share : 0 < c.seat.inside.seat.me.0.shares = omega arith in
    let over : c.seat.inside.seat.me.0.over < c.seat.inside.seat.me.0.shares = grind (arith, nat_tests) in
    (search rules, search rules, draws_as _ _ _ _ i.0 share over)
