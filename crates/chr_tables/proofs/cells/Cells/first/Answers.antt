use Rattle.std.proofs.Common.{rules, ◌≡◌, ◌<◌, [], length, get_or, ap, subst, arith, IfSome}
use mir.Syntax.{w64}
use Rattle.std.proofs.lemmas.Int.{to_z-of_z}
use Rattle.std.proofs.lemmas.List.{get_or_default}
use Rattle.chr_tables.proofs.InColumns.{length_atoms}
use Rattle.chr_tables.proofs.Looking.{least_has, none_at_all}
use Rattle.chr_tables.proofs.cells.Cells.first.Goals as goal

pub first-requires : goal.first-requires
first-requires c =
    let v = ap length c.self.view_is in
    let n = length_atoms c.self.inside.columns 0 c.self.inside.shapes.items in
    let e = c.len.ensures in
    let r = c.requires.from in
    omega (arith, v, n, e, r, c.self.inside.shapes.ok.0)

pub returns-clause-within : goal.returns-clause-within
returns-clause-within c =
    let v = ap length c.self.view_is in
    let n = length_atoms c.self.inside.columns 0 c.self.inside.shapes.items in
    let e = c.len.ensures in
    let same : c.len.result ≡ length c.args.self.now = omega (arith, v, n, e, c.self.inside.shapes.ok.0) in
    subst (λ m. IfSome c.first.result (λ row. row < m)) same c.first.ensures.within

pub returns-clause-least : goal.returns-clause-least
returns-clause-least c =
    let e = c.len.ensures in
    let same : c.len.result ≡ length c.self.inside.shapes.items = omega (arith, e, c.self.inside.shapes.ok.0) in
    let there : c.args.column < length c.self.inside.columns = search rules in
    let at = get_or_default c.self.inside.columns c.args.column c.index-self-column.result [] there in
    least_has c.self.inside.columns c.self.inside.shapes.items c.args.self.now c.self.view_is c.args.column c.args.value
    (get_or c.self.inside.columns c.args.column c.index-self-column.result) at c.args.from c.first.result
    (subst (λ m. IfSome c.first.result (λ row. row < m)) same c.first.ensures.within)
    (rw (to_z-of_z w64 c.args.value c.ranges.value) at c.first.ensures.least)

pub returns-clause-none : goal.returns-clause-none
returns-clause-none c =
    let v = ap length c.self.view_is in
    let n = length_atoms c.self.inside.columns 0 c.self.inside.shapes.items in
    let e = c.len.ensures in
    let there : c.args.column < length c.self.inside.columns = search rules in
    let at = get_or_default c.self.inside.columns c.args.column c.index-self-column.result [] there in
    none_at_all c.self.inside.columns c.self.inside.shapes.items c.args.self.now c.self.view_is c.args.column
    c.args.value (get_or c.self.inside.columns c.args.column c.index-self-column.result) at c.args.from
    c.first.result
    c.len.result (omega (arith, e, c.self.inside.shapes.ok.0)) (length c.args.self.now) (omega (arith, v, n))
    (rw (to_z-of_z w64 c.args.value c.ranges.value) at c.first.ensures.none)
