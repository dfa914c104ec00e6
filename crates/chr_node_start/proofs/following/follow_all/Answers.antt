use Rattle.chr_node_start.proofs.Hearings.{hears_then}
use Rattle.chr_node_start.proofs.following.follow_all.Goals as goal

pub returns-in_err-follow_file : goal.returns-in_err-follow_file
returns-in_err-follow_file g c =
    hears_then g.D.Disk.seen g.H.Holder.operations g.H.Holder.program c.args.node.now c.loop-file.node
    c.follow_file.new.node c.loop-file.invariant c.follow_file.ensures

pub loop-file-preserved : goal.loop-file-preserved
loop-file-preserved g c =
    hears_then g.D.Disk.seen g.H.Holder.operations g.H.Holder.program c.args.node.now c.loop-file.node
    c.follow_file.new.node c.loop-file.invariant c.follow_file.ensures
