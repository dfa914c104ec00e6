use Rattle.chr_node_talk.specs.Talks.{IsReady}
use Rattle.chr_node_start.proofs.session.answer_all.Given as goal

abbrev pub invariant-loop : goal.invariant-loop
invariant-loop g l =
    IsReady g.D.Disk.seen g.D.Disk.may_leave g.D.Disk.is_usable g.H.Holder.operations g.H.Holder.program
    l.machine.talk.node
