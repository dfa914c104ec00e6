use Rattle.std.proofs.Common.{subst}
use Rattle.chr_weighing.specs.Cycles.{IsCycle}
use Rattle.chr_weighing.proofs.CycleLaw.{no_weights}
use Rattle.chr_weighing.proofs.weighing.cycle_found.Goals as goal

pub returns-then-is_cycle : goal.returns-then-is_cycle
returns-then-is_cycle c =
    let cycle = subst (IsCycle c.args.program.now) c.deref.ensures.value c.if-is_cycle.ensures in
    (cycle, no_weights c.args.program.now c.args.times.items cycle)
