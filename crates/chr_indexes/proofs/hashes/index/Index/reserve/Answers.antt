use Rattle.std.proofs.Common.{◌≡◌, ◌+◌, ◌≤◌, ap, arith, length, vec_len}
use Rattle.chr_indexes.proofs.HashRows.{length_rows}
use Rattle.std.specs.Prelude.{vec_capacity}
use Rattle.chr_indexes.proofs.hashes.index.Index.reserve.Goals as goal
use Rattle.chr_indexes.proofs.hashes.index.Index.reserve.Goals.{else-slots-len-via-then-slots-len+else-slots-lt1073741824}
use Rattle.chr_indexes.proofs.hashes.index.Index.reserve.Goals.{else-slots-len-via-else-slots-len}

pub returns-in_ok-resize-clause-ok : goal.returns-in_ok-resize-clause-ok
returns-in_ok-resize-clause-ok c =
    let l = length_rows c.self.inside.rows.items in
    let v = ap (λ x. length x.rows) c.self.view_is in
    let x = c.in_ok-reserve.ensures in
    let p : vec_len c.self.inside.rows ≡ length c.self.inside.rows.items = omega (arith, c.self.inside.rows.ok.0) in
    omega arith

pub returns-else-slots-len-clause-ok : goal.returns-else-slots-len-clause-ok
returns-else-slots-len-clause-ok c =
    let l = length_rows c.self.inside.rows.items in
    let v = ap (λ x. length x.rows) c.self.view_is in
    let x = c.in_ok-reserve.ensures in
    let p : vec_len c.self.inside.rows ≡ length c.self.inside.rows.items = omega (arith, c.self.inside.rows.ok.0) in
    let room : length c.args.self.now.rows + c.args.more ≤ vec_capacity c.reserve.new.self = omega arith in
    elim c.else-slots-len.branch as (λ _. length c.args.self.now.rows + c.args.more ≤ c.else-slots-len.self.room) [
      | else-slots-len-via-then-slots-len+else-slots-lt1073741824 w ↦ rw w.self-is room
      | else-slots-len-via-else-slots-len w ↦ rw w.self-is room
    ]
