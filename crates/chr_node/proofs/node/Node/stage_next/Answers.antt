use Rattle.std.proofs.Common.{[], ap, refl}
use Rattle.chr_base.specs.Programs.{declarations}
use Rattle.chr_node.proofs.Keeping.{told, owned_told, told_grows}
use Rattle.chr_node.proofs.node.Node.stage_next.Goals as goal

pub returns-in-New-clause-node : goal.returns-in-New-clause-node
returns-in-New-clause-node g c = λ others node.
    let n = c.args.self.now in
    told (g.H.Holder.operations n.holder) (g.H.Holder.operations c.stage.new.holder)
    (declarations (g.H.Holder.program n.holder)) (declarations (g.H.Holder.program c.stage.new.holder))
    (g.D.Disk.seen n.feed.disk) n.waiting.items c.stage.new.records.items others n.origin n.last
    c.id-number.result.number c.args.op (ap declarations c.stage.ensures.program)
    (c.in_ok-stage.ensures.new (cc (c.in-New.is)))
    (c.in_ok-stage.ensures.record (cc (c.in-New.is)) node.waiting_whole) c.requires.0 c.requires.1
    (ap (λ i. i.number) c.id-number.ensures) node

pub returns-in-New-clause-keeps : goal.returns-in-New-clause-keeps
returns-in-New-clause-keeps g c =
    let n = c.args.self.now in
    let m = g.H.Holder.operations n.holder in
    let takes = c.in_ok-stage.ensures.new (cc (c.in-New.is)) in
    record {
      grows = told_grows m (g.H.Holder.operations c.stage.new.holder) c.args.op takes;
      files = λ _ others node. ([], returns-in-New-clause-node g c others node);
      owner = λ owns.
          owned_told m (g.H.Holder.operations c.stage.new.holder) (declarations (g.H.Holder.program n.holder))
          (declarations (g.H.Holder.program c.stage.new.holder)) (g.D.Disk.seen n.feed.disk) n.waiting.items
          c.stage.new.records.items n.origin c.args.op (ap declarations c.stage.ensures.program) takes
          (c.in_ok-stage.ensures.record (cc (c.in-New.is)) owns.whole) owns;
      same_program = c.stage.ensures.program;
      same_origin = refl;
    }
