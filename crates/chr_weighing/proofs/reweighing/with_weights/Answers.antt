use Rattle.chr_weighing.proofs.SameSymbols.{copied, reweighed_on}
use Rattle.chr_weighing.proofs.reweighing.with_weights.Goals as goal

pub loop-place-init : goal.loop-place-init
loop-place-init c = copied c.args.program.now c.in_ok-other.other c.in_ok-other.ensures.symbols
    c.in_ok-other.ensures.rules

pub loop-place-preserved : goal.loop-place-preserved
loop-place-preserved c = reweighed_on c.args.program.now c.loop-place.other c.put_weight.new.program
    c.loop-place.invariant c.put_weight.ensures
