use Rattle.std.proofs.Common.{◌∷◌, ◌∙◌, get_or, sym}
use Rattle.chr_syntax.specs.Views.{symbol_view}
use Rattle.chr_read.proofs.SeenSymbols.{one_more, is_not, is_not_false, found, not_found, one_more_key}
use Rattle.chr_read.proofs.doubles.comes_again.Goals as goal

pub returns-then-not-branch : goal.returns-then-not-branch
returns-then-not-branch c =
    let inv = c.loop-symbol.invariant in
    let there = is_not _ _ c.in_ok-insert.ensures.added c.if-not-branch.true in
    let s = get_or c.args.symbols.now c.loop-symbol.symbol-index _ in
    let met = sym (inv.1 (s.name, c.without_zeros.result)) ∙ there in
    let at = rw c.without_zeros.ensures at met in
    sym (sym inv.2 ∙ one_more inv.0 symbol_view c.args.symbols.now c.loop-symbol.symbol-index _ c.loop-symbol-test.true
    ∙ found _ _ at)

pub loop-symbol-preserved : goal.loop-symbol-preserved
loop-symbol-preserved c =
    let inv = c.loop-symbol.invariant in
    let absent = is_not_false _ _ c.in_ok-insert.ensures.added c.if-not-branch.false in
    let s = get_or c.args.symbols.now c.loop-symbol.symbol-index _ in
    let unmet = sym (inv.1 (s.name, c.without_zeros.result)) ∙ absent in
    let at = rw c.without_zeros.ensures at unmet in (
      symbol_view s ∷ inv.0,
      λ q. c.in_ok-insert.ensures.updates.0 q ∙ one_more_key _ q.0.now q.1.now _ inv.0
          (symbol_view s) c.without_zeros.ensures (inv.1 q),
      sym (not_found _ _ at) ∙ sym (one_more inv.0 symbol_view c.args.symbols.now c.loop-symbol.symbol-index _
          c.loop-symbol-test.true) ∙ inv.2,
    )
