use Rattle.std.proofs.Common.{sym, ◌∙◌}
use Rattle.chr_shared.proofs.Receipts.{numbered_more}
use Rattle.chr_shared.proofs.shared.are_numbered.Goals as goal

pub loop-k-preserved : goal.loop-k-preserved
loop-k-preserved g c =
    numbered_more c.args.seats.now c.loop-k.k c.index-seats-k.result c.index-seats-k.is c.loop-k-test.true
    (sym c.number.ensures ∙ sym c.from.ensures ∙ c.if-from-k.false) c.loop-k.invariant
