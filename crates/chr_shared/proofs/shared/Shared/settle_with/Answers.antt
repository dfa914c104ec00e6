use Rattle.chr_shared.proofs.Receiving.{shown_in, rests_with, stops_with}
use Rattle.chr_shared.proofs.shared.Shared.settle_with.Goals as goal

pub returns-in-Err-clause-list : goal.returns-in-Err-clause-list
returns-in-Err-clause-list g c = stops_with c.args.parts _ _ _ c.in-Err.ensures.err

pub returns-in-Ok-take_parts-clause-shown : goal.returns-in-Ok-take_parts-clause-shown
returns-in-Ok-take_parts-clause-shown g c =
    shown_in c.args.parts c.args.seat.now.list c.rest_and_show.new.seat.list c.rest_and_show.result
    (rests_with c.args.parts _ _ _ _ _ c.in-Ok-take_parts.ensures.ok c.rest_and_show.ensures.list)
