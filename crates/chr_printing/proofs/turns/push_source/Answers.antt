use Rattle.std.proofs.lemmas.Result.{on_ok_weaker}
use Rattle.chr_base.specs.Programs.{declarations}
use Rattle.chr_printing.proofs.Printed.{live_flat}
use Rattle.chr_printing.proofs.turns.push_source.Goals as goal

pub returns-in-Written : goal.returns-in-Written
returns-in-Written c =
    rw (c.in-Written.is, live_flat c.in-Written.flat.now)
    (on_ok_weaker c.push_written.result (λ f start before h. f (declarations c.args.program.now) start before
    (rw c.in-Written.is at c.requires) h) c.push_written.ensures)
