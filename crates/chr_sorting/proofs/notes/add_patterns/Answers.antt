use Rattle.std.proofs.Common.{◌++◌, ap, ◌∙◌}
use Rattle.chr_confluence.specs.Sorts.{terms_from}
use Rattle.chr_sorting.specs.FinestSorts.{position_of}
use Rattle.chr_sorting.proofs.Listing.{pattern_placed}
use Rattle.chr_sorting.proofs.notes.add_patterns.Goals as goal

pub loop-pattern-preserved : goal.loop-pattern-preserved
loop-pattern-preserved c =
    let q = c.pattern-item.result in
    let e = c.in_ok-add_terms.ensures ∙ ap (λ ts. c.loop-pattern.placed.items
    ++ terms_from (position_of q.symbol.0) 0 ts) c.deref.ensures.0 in
    pattern_placed c.args.patterns.now c.loop-pattern.pattern-index q c.args.placed.now.items
    c.loop-pattern.placed.items c.add_terms.new.placed.items c.loop-pattern-test.true c.pattern-item.is
    c.loop-pattern.invariant e
