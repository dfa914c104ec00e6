use Rattle.chr_base.specs.Programs.{declarations}
use Rattle.chr_node.proofs.Keeping.{opened, owned_opened}
use Rattle.chr_node.proofs.node.Node.open.Goals as goal

pub returns-clause-node : goal.returns-clause-node
returns-clause-node g c =
    opened (g.H.Holder.operations c.args.holder) (declarations (g.H.Holder.program c.args.holder))
    (g.D.Disk.seen c.in-Ok.feed.disk) c.new.result.items c.args.origin c.args.last c.requires.untold
    c.in-Ok.ensures.none c.new.ensures.items

pub returns-clause-owner : goal.returns-clause-owner
returns-clause-owner g c =
    owned_opened (g.H.Holder.operations c.args.holder) (declarations (g.H.Holder.program c.args.holder))
    (g.D.Disk.seen c.in-Ok.feed.disk) c.new.result.items c.args.origin c.requires.untold c.new.ensures.items
