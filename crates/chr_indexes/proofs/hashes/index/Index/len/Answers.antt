use Rattle.std.proofs.Common.{◌≡◌, ap, arith, length, vec_len}
use Rattle.chr_indexes.proofs.HashRows.{length_rows}
use Rattle.chr_indexes.proofs.hashes.index.Index.len.Goals as goal

pub returns : goal.returns
returns c =
    let l = length_rows c.self.inside.rows.items in
    let v = ap (λ x. length x.rows) c.self.view_is in
    let p : vec_len c.self.inside.rows ≡ length c.self.inside.rows.items = omega (arith, c.self.inside.rows.ok.0) in
    let e = c.len.ensures in
    omega (arith, l, v, p, e)
