use Rattle.std.proofs.Common.{length, ap, arith}
use Rattle.chr_indexes.proofs.PairsCrossed.{pairs_many}
use Rattle.chr_indexes.proofs.ranges.crossing.Crossing.reserve.Goals as goal

pub reserve-requires : goal.reserve-requires
reserve-requires c =
    let rows = ap (λ x. length x.rows) c.self.view_is in
    let many = pairs_many c.self.inside.first.rows c.self.inside.second.rows c.self.invariant in
    let same = c.self.invariant in
    let room = ap (λ x. x.room) c.self.view_is in
    let r = c.requires in omega (arith, rows, many, r)

pub reserve-requires-2 : goal.reserve-requires-2
reserve-requires-2 c =
    let rows = ap (λ x. length x.rows) c.self.view_is in
    let many = pairs_many c.self.inside.first.rows c.self.inside.second.rows c.self.invariant in
    let same = c.self.invariant in
    let room = ap (λ x. x.room) c.self.view_is in
    let r = c.requires in omega (arith, rows, many, same, r)

pub returns-clause-ok : goal.returns-clause-ok
returns-clause-ok c =
    let rows = ap (λ x. length x.rows) c.self.view_is in
    let many = pairs_many c.self.inside.first.rows c.self.inside.second.rows c.self.invariant in
    let same = c.self.invariant in
    let first = c.in_ok-reserve.ensures.ok in
    let second = c.in_ok-reserve-2.ensures.ok in
    omega (arith, rows, many, same, first, second)
