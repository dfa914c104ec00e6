use Rattle.std.proofs.Common.{◌<◌, length, get_or, set, ap, ◌∙◌, arith}
use Rattle.chr_tables.proofs.InColumns.{length_atoms}
use Rattle.chr_tables.proofs.Compacting.{atoms_moved}
use Rattle.chr_tables.proofs.cells.Cells.move_down.Goals as goal

pub index-requires : goal.index-requires
index-requires c =
    let v = ap length c.self.view_is in
    let l = length_atoms c.self.inside.columns 0 c.self.inside.shapes.items in
    let r = c.requires.within in
    omega (arith, v, l, r, c.self.inside.shapes.ok.0)

pub index_mut-requires : goal.index_mut-requires
index_mut-requires c =
    let v = ap length c.self.view_is in
    let l = length_atoms c.self.inside.columns 0 c.self.inside.shapes.items in
    let r = c.requires.within in
    let o = c.requires.order in
    omega (arith, v, l, r, o, c.self.inside.shapes.ok.0)

pub returns : goal.returns
returns c a =
    let v = ap length c.self.view_is in
    let n = length_atoms c.self.inside.columns 0 c.self.inside.shapes.items in
    let r = c.requires.within in
    let l : c.args.from < length c.self.inside.shapes.items = omega (arith, v, n, r) in
    atoms_moved c.move_arguments.new.columns c.self.inside.columns c.self.inside.shapes.items c.args.to c.args.from
    c.index.result.now a l
    c.move_arguments.ensures.moved c.move_arguments.ensures.others c.index.ensures
    ∙ ap (λ xs. set xs c.args.to (get_or xs c.args.from a)) c.self.view_is
