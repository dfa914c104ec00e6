use Rattle.std.proofs.Common.{rules, ◌≡◌, ◌∙◌, pos, length, get_or, sym, ap, arith, inl, inr}
use Rattle.std.specs.Vec.{vec_len}
use Rattle.std.proofs.lemmas.Bool.{cases_lt}
use Rattle.std.proofs.lemmas.List.{get_or_past}
use Rattle.chr_tables.proofs.cells.Column.put.Goals as goal

pub returns-clause-before : goal.returns-clause-before
returns-clause-before c = λ i l.
    let cut = c.truncate.ensures.len in
    let filled : vec_len c.resize.new.self ≡ c.args.row = search rules in
    let view = ap length c.self.view_is in
    let pushed = c.push.ensures.by_index.0 i (pos 0) (omega (arith, l, filled)) in
    elim (cases_lt i (length c.args.self.now)) as (λ _. get_or c.push.new.self.items i (pos 0)
    ≡ get_or c.args.self.now i (pos 0)) [
      | inl less ↦ pushed ∙ c.resize.ensures.by_index.0 i (pos 0) l
          (omega (arith, l, less, cut, view, c.self.inside.values.ok.0)) ∙ c.truncate.ensures.by_index i (pos 0) l
          ∙ ap (λ xs. get_or xs i (pos 0)) c.self.view_is
      | inr most ↦ pushed ∙ search rules ∙ sym (get_or_past c.args.self.now i (pos 0) most)
    ]
