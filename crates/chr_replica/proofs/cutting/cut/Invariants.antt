use Rattle.chr_replica.specs.Leases.{parts_in, AreNumbered}
use Rattle.chr_replica.specs.working.Cuts.{AreCut}
use Rattle.chr_replica.proofs.cutting.cut.Given as goal

abbrev pub invariant-loop-k : goal.invariant-loop-k
invariant-loop-k l =
    AreCut l.least l.more l.count l.k l.atoms l.rest (parts_in l.leases.items) × AreNumbered l.first l.leases.items
