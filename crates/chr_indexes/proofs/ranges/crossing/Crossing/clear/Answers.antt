use Rattle.std.proofs.Common.{length, ap, arith}
use Rattle.chr_indexes.proofs.PairsCrossed.{pairs_many}
use Rattle.chr_indexes.proofs.ranges.crossing.Crossing.clear.Goals as goal

pub returns-clause-fits : goal.returns-clause-fits
returns-clause-fits c =
    let rows = ap (λ x. length x.rows) c.self.view_is in
    let many = pairs_many c.self.inside.first.rows c.self.inside.second.rows c.self.invariant in
    let same = c.self.invariant in
    let room = ap (λ x. x.room) c.self.view_is in
    let first = c.clear.ensures.fits in
    let second = c.clear-2.ensures.fits in
    omega (arith, rows, many, same, first, second)
