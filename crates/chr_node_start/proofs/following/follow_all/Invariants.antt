use Rattle.chr_node_start.specs.working.Hearing.{Hears}
use Rattle.chr_node_start.proofs.following.follow_all.Given as goal

abbrev pub invariant-loop-file : goal.invariant-loop-file
invariant-loop-file g l = Hears g.D.Disk.seen g.H.Holder.operations g.H.Holder.program l.initial.node l.node
