use Rattle.chr_ops.proofs.FreshSteps.{known_noted}
use Rattle.chr_ops.proofs.fresh.take_note.Goals as goal

pub returns-clause-known : goal.returns-clause-known
returns-clause-known c = known_noted c.args.held.now c.args.seen.now c.insert.new.self c.args.id
    c.in_ok-insert.ensures.updates.0
