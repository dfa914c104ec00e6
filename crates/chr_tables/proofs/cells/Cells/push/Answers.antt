use Rattle.std.proofs.Common.{◌≡◌, length, refl, ap, ◌∙◌, arith}
use Rattle.chr_tables.proofs.InColumns.{row_is, atoms_same, atoms_pushed}
use Rattle.chr_tables.proofs.Choices.{on_err}
use Rattle.chr_tables.proofs.cells.Cells.push.Goals as goal

pub returns-in_err-put_arguments-clause-err : goal.returns-in_err-put_arguments-clause-err
returns-in_err-put_arguments-clause-err c =
    let shapes = c.in_ok-reserve.ensures.items in
    let e = c.len-2.ensures in
    let n = ap length shapes in
    on_err _ c.from_residual-in_err-put_arguments.result
    (rw shapes
    (atoms_same _ _ c.len-2.result 0 c.self.inside.shapes.items c.in_err-put_arguments.ensures.before
    (omega (arith, e, n, c.reserve.new.self.ok.0))
    ∙ c.self.view_is))

pub returns-clause-ok : goal.returns-clause-ok
returns-clause-ok c =
    let shapes = c.in_ok-reserve.ensures.items in
    let e = c.len-2.ensures in
    let n = ap length shapes in
    let count : length c.self.inside.shapes.items ≡ c.len-2.result = omega (arith, e, n, c.reserve.new.self.ok.0) in
    let args = row_is c.put_arguments.new.columns c.len-2.result c.args.atom.now.args.items
    (rw c.deref.ensures.0 at c.in_ok-put_arguments.ensures.ok) in
    rw (c.push_reserved.ensures.items, shapes)
    (atoms_pushed _ _ c.len-2.result c.self.inside.shapes.items _ _ c.args.atom.now c.in_ok-put_arguments.ensures.before
    count refl c.len.ensures.value args c.self.view_is)
