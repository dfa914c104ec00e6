use Rattle.std.proofs.lemmas.Int.{to_z-of_z}
use mir.Syntax.{w64}
use Rattle.std.proofs.Common.{length, [], ◌∷◌, ◌++◌, ap, ◌∙◌, arith}
use Rattle.chr_indexes.proofs.PairsCrossed.{pairs_many, pairs_push}
use Rattle.std.specs.Prelude.{Some}
use Rattle.chr_indexes.proofs.ranges.crossing.Crossing.push.Goals as goal

pub push-requires-clause-room : goal.push-requires-clause-room
push-requires-clause-room c =
    let rows = ap (λ x. length x.rows) c.self.view_is in
    let many = pairs_many c.self.inside.first.rows c.self.inside.second.rows c.self.invariant in
    let same = c.self.invariant in
    let room = ap (λ x. x.room) c.self.view_is in
    let r = c.requires.room in omega (arith, rows, many, room, r)

pub push-requires-clause-few : goal.push-requires-clause-few
push-requires-clause-few c =
    let rows = ap (λ x. length x.rows) c.self.view_is in
    let many = pairs_many c.self.inside.first.rows c.self.inside.second.rows c.self.invariant in
    let same = c.self.invariant in
    let room = ap (λ x. x.room) c.self.view_is in
    let r = c.requires.few in omega (arith, rows, many, r)

pub push-requires-2-clause-room : goal.push-requires-2-clause-room
push-requires-2-clause-room c =
    let rows = ap (λ x. length x.rows) c.self.view_is in
    let many = pairs_many c.self.inside.first.rows c.self.inside.second.rows c.self.invariant in
    let same = c.self.invariant in
    let room = ap (λ x. x.room) c.self.view_is in
    let r = c.requires.room in omega (arith, rows, many, same, room, r)

pub push-requires-2-clause-few : goal.push-requires-2-clause-few
push-requires-2-clause-few c =
    let rows = ap (λ x. length x.rows) c.self.view_is in
    let many = pairs_many c.self.inside.first.rows c.self.inside.second.rows c.self.invariant in
    let same = c.self.invariant in
    let room = ap (λ x. x.room) c.self.view_is in
    let r = c.requires.few in omega (arith, rows, many, same, r)

pub returns-clause-rows : goal.returns-clause-rows
returns-clause-rows c =
    rw (
      c.push.ensures.rows,
      c.push-2.ensures.rows,
      to_z-of_z w64 c.args.first c.ranges.first,
      to_z-of_z w64 c.args.second c.ranges.second,
    )
    (pairs_push c.self.inside.first.rows c.self.inside.second.rows c.args.hash c.args.first c.args.second
    c.self.invariant
    ∙ ap (λ x. x.rows ++ Some (record { hash = c.args.hash; first = c.args.first; second = c.args.second }) ∷ [])
    c.self.view_is)
