use Rattle.chr_printing.proofs.Printed.{live_flat}
use Rattle.chr_printing.proofs.turns.follow.Goals as goal

pub follow_written-requires : goal.follow_written-requires
follow_written-requires c = rw c.in-Written.is at c.requires

pub returns-in-Written : goal.returns-in-Written
returns-in-Written c = rw (c.in-Written.is, live_flat c.in-Written.flat.now) c.follow_written.ensures
