use Rattle.chr_weighing.proofs.SameSymbols.{put_at}
use Rattle.chr_weighing.proofs.reweighing.put_weight.Goals as goal

pub returns-in-Ok : goal.returns-in-Ok
returns-in-Ok c =
    put_at c.args.program.now c.set_weight.new.self c.in-Ok.symbol c.args.weight c.set_weight.ensures.symbols
    c.set_weight.ensures.rules
