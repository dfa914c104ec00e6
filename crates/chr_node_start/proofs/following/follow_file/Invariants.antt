use Rattle.chr_node_start.specs.working.Hearing.{Hears}
use Rattle.chr_node_start.proofs.following.follow_file.Given as goal

abbrev pub invariant-loop : goal.invariant-loop
invariant-loop g l = Hears g.D.Disk.seen g.H.Holder.operations g.H.Holder.program l.initial.node l.node
