use Rattle.chr_base.specs.Programs.{declarations}
use Rattle.chr_printing.specs.working.Printing.{flat_atoms}
use Rattle.chr_printing.proofs.Printed.{rises_on}
use Rattle.chr_printing.proofs.turns.follow_written.Goals as goal

pub returns : goal.returns
returns c = λ before h.
    rises_on (declarations c.args.program.now) before (flat_atoms c.args.flat.now) c.args.last.now c.in-Some.first
    c.in-Some.end h c.requires.rises c.in-Some.ensures.first c.in-Some.ensures.last c.if-not-comes_after.ensures
