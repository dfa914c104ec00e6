use Rattle.std.proofs.Common.{arith, set, subst}
use Rattle.std.specs.List.{Contains}
use Rattle.std.proofs.lemmas.Grind.{common_steps}
use Rattle.chr_shared.specs.Settling.{IsShownIn}
use Rattle.chr_replica_tests.proofs.tests.seats.closing.closed.Goals as goal

pub close_with-book-requires-clause-receipt : goal.close_with-book-requires-clause-receipt
close_with-book-requires-clause-receipt g c =
    let first = c.settle_with-settled.new.seat in
    let among : Contains (set c.args.seats.items 0 first) first =
    (0, grind (arith, common_steps), grind (arith, common_steps)) in
    let shown = subst (IsShownIn first.list) c.in-Rest.is c.settle_with-settled.ensures.shown in
    (first, among, shown.0)
