use Rattle.std.proofs.Common.{ap, arith, length}
use Rattle.chr_tables.proofs.Lives.{length_live}
use Rattle.chr_tables.proofs.table.Table.len.Goals as goal

pub returns : goal.returns
returns c =
    let l = length_live c.self.inside.atoms c.self.inside.alive.items c.self.invariant.as_alive in
    let v = ap (λ t. length t.rows) c.self.view_is in
    let e = c.len.ensures in
    omega (arith, l, v, e)
