use Rattle.std.proofs.Common.{length, ap, arith}
use Rattle.chr_tables.proofs.InColumns.{length_atoms}
use Rattle.chr_tables.proofs.cells.Cells.len.Goals as goal

pub returns : goal.returns
returns c =
    let v = ap length c.self.view_is in
    let l = length_atoms c.self.inside.columns 0 c.self.inside.shapes.items in
    let e = c.len.ensures in
    omega (arith, v, l, e, c.self.inside.shapes.ok.0)
