use Rattle.std.proofs.Common.{length, set, ap, ◌∙◌, arith}
use Rattle.chr_indexes.proofs.PairsCrossed.{pairs_many, pairs_kill}
use Rattle.std.specs.Prelude.{None}
use Rattle.chr_indexes.proofs.ranges.crossing.Crossing.kill.Goals as goal

pub kill-requires : goal.kill-requires
kill-requires c =
    let rows = ap (λ x. length x.rows) c.self.view_is in
    let many = pairs_many c.self.inside.first.rows c.self.inside.second.rows c.self.invariant in
    let same = c.self.invariant in
    let room = ap (λ x. x.room) c.self.view_is in
    let r = c.requires in omega (arith, rows, many, r)

pub kill-requires-2 : goal.kill-requires-2
kill-requires-2 c =
    let rows = ap (λ x. length x.rows) c.self.view_is in
    let many = pairs_many c.self.inside.first.rows c.self.inside.second.rows c.self.invariant in
    let same = c.self.invariant in
    let room = ap (λ x. x.room) c.self.view_is in
    let r = c.requires in omega (arith, rows, many, same, r)

pub returns-clause-rows : goal.returns-clause-rows
returns-clause-rows c =
    rw (c.kill.ensures.rows, c.kill-2.ensures.rows)
    (pairs_kill c.self.inside.first.rows c.self.inside.second.rows c.args.row
    ∙ ap (λ x. set x.rows c.args.row None) c.self.view_is)
