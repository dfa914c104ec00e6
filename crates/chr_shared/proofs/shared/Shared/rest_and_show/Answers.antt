use Rattle.chr_shared.specs.Settling.{numbers_in}
use Rattle.chr_shared.proofs.Receiving.{ends_with}
use Rattle.chr_shared.proofs.shared.Shared.rest_and_show.Goals as goal

pub returns-in-Ok-clause-list : goal.returns-in-Ok-clause-list
returns-in-Ok-clause-list g c =
    ends_with (numbers_in c.args.leases.items) c.args.seat.now.list c.rest_leases.new.seat.list
    c.settle_and_show.new.seat.list c.settle_and_show.result
    c.in-Ok.ensures.list c.settle_and_show.ensures.list
