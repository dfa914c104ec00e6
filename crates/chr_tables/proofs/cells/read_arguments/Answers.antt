use Rattle.std.proofs.Common.{rules, ◌≡◌, suc, ◌+◌, ◌<◌, [], ◌∷◌, ◌++◌, pos, length, get_or, sym, ap, ◌∙◌, arith}
use mir.Val.{SFits}
use mir.Syntax.{w64}
use Rattle.std.proofs.lemmas.List.{get_or_default}
use Rattle.std.proofs.lemmas.Int.{to_z-of_z}
use Rattle.chr_tables.specs.working.Cells.{cell_value, arguments}
use Rattle.chr_tables.proofs.InColumns.{arguments_more}
use Rattle.chr_tables.proofs.cells.read_arguments.Goals as goal

pub loop-column-preserved : goal.loop-column-preserved
loop-column-preserved c =
    let t = c.loop-column-test.true in
    let r = c.requires.columns in
    let l : c.loop-column.column < length c.args.columns.now = omega (arith, t, r) in
    let at : c.index-columns-column.result ≡ get_or c.args.columns.now c.loop-column.column [] =
    c.index-columns-column.is ∙ get_or_default _ _ _ [] l in
    let next : c.loop-column.column + 1 ≡ suc c.loop-column.column = omega arith in
    let here : c.loop-column.column ≡ 0 + c.loop-column.column = omega arith in
    let value : c.get.result ≡ cell_value c.args.columns.now (0 + c.loop-column.column) c.args.row =
    c.get.ensures ∙ ap (λ x. get_or x c.args.row (pos 0)) at
    ∙ ap (λ k. cell_value c.args.columns.now k c.args.row) here in
    let fits : SFits w64 c.get.result = search rules in
    let m = c.push.ensures.len in
    let n = c.loop-column.invariant.count in
    record {
      items = c.push.ensures.items ∙ (λ i. c.loop-column.invariant.items i
          ++ (to_z-of_z w64 c.get.result fits ∙ value) i ∷ [])
          ∙ sym (ap (arguments c.args.columns.now c.args.row 0) next
          ∙ arguments_more c.args.columns.now c.args.row 0 c.loop-column.column);
      count = omega (arith, m, n);
    }
