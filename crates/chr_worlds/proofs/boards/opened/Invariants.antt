use Rattle.std.proofs.Common.{◌≡◌, replicate}
use Rattle.std.specs.Arc.{arc_value}
use Rattle.chr_replica.specs.Replicas.{first}
use Rattle.chr_worlds.proofs.boards.opened.Given as goal

abbrev pub invariant-loop-number : goal.invariant-loop-number
invariant-loop-number l = l.boards.items ≡ replicate l._number
    (record { accepted = arc_value l.accepted; replica = first })
