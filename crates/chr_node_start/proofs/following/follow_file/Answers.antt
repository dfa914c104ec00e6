use Rattle.std.proofs.Common.{sym, subst}
use Rattle.chr_node.specs.declared.node.Node.{Node}
use Rattle.chr_node_start.specs.working.Hearing.{Hears}
use Rattle.chr_node_start.proofs.Hearings.{hears_then}
use Rattle.chr_node_start.proofs.following.follow_file.Goals as goal
use Rattle.chr_node_start.proofs.following.follow_file.Goals.{else-loop-test, then-loop-test+then-is_some}
use Rattle.chr_node_start.proofs.following.follow_file.Goals.{then-loop-test+else-is_some+in_ok-take_next+in-Ended}

pub returns-in_err-take_next : goal.returns-in_err-take_next
returns-in_err-take_next g c =
    hears_then g.D.Disk.seen g.H.Holder.operations g.H.Holder.program c.args.node.now c.loop.node c.take_next.new.node
    c.loop.invariant c.take_next.ensures

pub returns-in_err-from_str-in-Left : goal.returns-in_err-from_str-in-Left
returns-in_err-from_str-in-Left g c =
    hears_then g.D.Disk.seen g.H.Holder.operations g.H.Holder.program c.args.node.now c.loop.node c.take_next.new.node
    c.loop.invariant c.take_next.ensures

pub loop-preserved : goal.loop-preserved
loop-preserved g c =
    hears_then g.D.Disk.seen g.H.Holder.operations g.H.Holder.program c.args.node.now c.loop.node c.take_next.new.node
    c.loop.invariant c.take_next.ensures

pub returns : goal.returns
returns g c =
    let seen = g.D.Disk.seen in
    let operations = g.H.Holder.operations in
    let program = g.H.Holder.program in
    let old = c.args.node.now in
    elim c.loop-test.branch [
      | else-loop-test w ↦
          subst (λ (n : Node g.row.D.Denot g.row.H.Denot). Hears seen operations program old n) (sym w.node-is)
          c.loop.invariant
      | then-loop-test+then-is_some w ↦
          subst (λ (n : Node g.row.D.Denot g.row.H.Denot). Hears seen operations program old n) (sym w.node-is)
          c.loop.invariant
      | then-loop-test+else-is_some+in_ok-take_next+in-Ended w ↦
          subst (λ (n : Node g.row.D.Denot g.row.H.Denot). Hears seen operations program old n) (sym w.node-is)
          (hears_then seen operations program old c.loop.node w.take_next.new.node c.loop.invariant w.take_next.ensures)
    ]
