use Rattle.std.proofs.Common.{◌≡◌, ◌≤◌, [], vec_len, vec_capacity}
use Rattle.chr_shared.specs.Tie.{keeper}
use Rattle.chr_shared.specs.Seats.{AreNew}
use Rattle.chr_shared.proofs.shared.Shared.open.Given as goal

abbrev pub invariant-loop-k : goal.invariant-loop-k
invariant-loop-k g l =
    (l.pass.table_id ≡ l.table.shared.table_id)
    × (l.pass.me ≡ (keeper [] (vec_len l.seats), []))
    × (vec_len l.seats ≡ l.k)
    × (l.count ≤ vec_capacity l.seats)
    × AreNew l.seats.items
