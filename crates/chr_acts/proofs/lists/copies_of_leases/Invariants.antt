use Rattle.std.proofs.Common.{◌≡◌, take}
use Rattle.chr_acts.proofs.lists.copies_of_leases.Given as goal

abbrev pub invariant-loop-lease : goal.invariant-loop-lease
invariant-loop-lease l = l.copies.items ≡ take l.lease-index l.leases
