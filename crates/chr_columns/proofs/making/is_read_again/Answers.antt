use Rattle.std.proofs.Common.{sym, ◌∙◌, arith}
use Rattle.chr_base.proofs.SameRules.{pattern_decides}
use Rattle.chr_columns.proofs.making.is_read_again.Goals as goal

pub returns-then-eq : goal.returns-then-eq
returns-then-eq c =
    let same = (pattern_decides c.head_at.result.now c.head_at-pattern.result.now).0 (sym c.eq.ensures ∙ c.if-eq.true)
    in (
      c.loop-later.later,
      (let l = c.loop-later.auto.later in omega (arith, l)),
      (let l = c.loop-later-test.true in let n = c.places-later-end.ensures.places in omega (arith, l, n)),
      sym c.head_at-pattern.ensures ∙ sym same ∙ c.head_at.ensures,
    )
