use Rattle.std.proofs.Common.{◌*◌, ◌≤◌, length, ap, arith}
use Rattle.std.specs.Prelude.{filter, is_some}
use Rattle.std.proofs.lemmas.Bool.{leb-true, OnTrue_from}
use Rattle.chr_tables.proofs.Lives.{length_live, dead_most, live_or_dead}
use Rattle.chr_tables.proofs.table.Table.is_half_dead.Goals as goal

pub overflow_mul-result : goal.overflow_mul-result
overflow_mul-result c =
    let dead = c.self.invariant.counted in
    let most = dead_most c.self.inside.alive.items in
    let a = c.self.invariant.as_alive in
    let few = c.self.invariant.few in
    omega (arith, dead, most, a, few)

pub returns-then-len-capacity : goal.returns-then-len-capacity
returns-then-len-capacity c =
    let rows = live_or_dead c.self.inside.atoms c.self.inside.alive.items c.self.invariant.as_alive in
    let dead = c.self.invariant.counted in
    let v = ap (λ t. length (filter is_some t.rows)) c.self.view_is in
    let w = ap (λ t. length t.rows) c.self.view_is in
    let m = length_live c.self.inside.atoms c.self.inside.alive.items c.self.invariant.as_alive in
    let a = c.self.invariant.as_alive in
    let len = c.len-then-len-capacity.ensures in
    OnTrue_from _ (2 * length (filter is_some c.args.self.now.rows) ≤ length c.args.self.now.rows)
    (λ t. (let l = leb-true _ _ t in omega (arith, rows, dead, v, w, m, a, len, l, c.self.inside.alive.ok.0)))
