use Rattle.std.proofs.Common.{sym, subst}
use Rattle.chr_join.specs.working.Counting.{AreCounts, IsCounted}
use Rattle.chr_join.proofs.Counted.{same_count}
use Rattle.chr_join.proofs.counting.Counts.known.Goals as goal

pub returns-then-has_guards_of : goal.returns-then-has_guards_of
returns-then-has_guards_of c constants are =
    let same = c.has_guards_of.ensures.0 c.if-has_guards_of.true in
    let each = subst (AreCounts constants) (sym c.deref-count-items.ensures.value) are in
    let here = subst (IsCounted constants) (sym c.count-item.is)
    (each c.loop-count.count-index c.count-item.result c.loop-count-test.true) in
    same_count constants c.count-item.result.unified c.args.unified.now c.count-item.result.number same.0 same.1 here
