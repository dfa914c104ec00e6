use Rattle.std.proofs.Common.{◌≡◌, ◌+◌, ◌<◌, length, get_or, sym, ap, ◌∙◌, arith}
use Rattle.chr_tables.specs.working.Cells.{arguments, row_atom}
use Rattle.chr_tables.proofs.InColumns.{length_atoms, atom_at}
use Rattle.chr_tables.proofs.cells.Cells.read.Goals as goal

pub index-shape-requires : goal.index-shape-requires
index-shape-requires c =
    let v = ap length c.self.view_is in
    let l = length_atoms c.self.inside.columns 0 c.self.inside.shapes.items in
    let r = c.requires in
    omega (arith, v, l, r, c.self.inside.shapes.ok.0)

pub returns : goal.returns
returns c a =
    let s = c.index-shape.result.now in
    let v = ap length c.self.view_is in
    let n = length_atoms c.self.inside.columns 0 c.self.inside.shapes.items in
    let r = c.requires in
    let l : c.args.row < length c.self.inside.shapes.items = omega (arith, v, n, r) in
    let here : c.args.row ≡ 0 + c.args.row = omega arith in
    let items : c.read_arguments.new.args.items ≡ arguments c.self.inside.columns c.args.row 0 s.arity =
    c.read_arguments.ensures ∙ ap (arguments c.self.inside.columns c.args.row 0) c.from.ensures in
    (λ i. record { symbol = s.symbol; args = record { items = items i } })
    ∙ ap (λ k. row_atom c.self.inside.columns k s) here
    ∙ ap (row_atom c.self.inside.columns (0 + c.args.row)) c.index-shape.ensures
    ∙ sym (atom_at c.self.inside.columns 0 c.self.inside.shapes.items c.args.row s a l)
    ∙ ap (λ xs. get_or xs c.args.row a) c.self.view_is
