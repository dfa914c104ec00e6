use Rattle.std.proofs.Common.{subst}
use Rattle.chr_ops.specs.declared.id.OpId.{OpId}
use Rattle.chr_node.specs.Nodes.{IsNext}
use Rattle.chr_node.specs.Refusals.{NodeRefuses}
use Rattle.chr_node.specs.working.Staged.{StageRefuses}
use Rattle.chr_node.proofs.Keeping.{if_err, staged_refused}
use Rattle.chr_node.proofs.node.Node.tell.Goals as goal

pub stage_next-requires : goal.stage_next-requires
stage_next-requires g c =
    subst (λ (i : OpId). IsNext c.args.self.now i) c.id-id.ensures c.if-not-is_next.ensures.next

pub returns-clause-refused : goal.returns-clause-refused
returns-clause-refused g c =
    let n = c.args.self.now in
    let p = g.H.Holder.program n.holder in
    let m = g.H.Holder.operations n.holder in
    if_err (StageRefuses p m c.args.op) (NodeRefuses p m n.origin n.last c.args.op) c.stage_next.result
    (staged_refused p m n.origin n.last c.args.op) c.stage_next.ensures.refused
