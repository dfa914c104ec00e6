use Rattle.std.proofs.Common.{ap, arith, length}
use Rattle.chr_indexes.proofs.HashRows.{length_rows}
use Rattle.chr_indexes.proofs.hashes.index.Index.clear.Goals as goal

pub returns-clause-fits : goal.returns-clause-fits
returns-clause-fits c =
    let l = length_rows c.self.inside.rows.items in
    let v = ap (λ x. length x.rows) c.self.view_is in
    let x = c.clear.ensures.capacity in
    omega (arith, l, v, x, c.self.inside.rows.ok.0, c.self.inside.rows.ok.1)
