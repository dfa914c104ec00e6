use Rattle.chr_node.proofs.Keeping.{if_err, refused_staged}
use Rattle.chr_node.specs.Refusals.{HolderRefuses}
use Rattle.chr_node.specs.working.Staged.{StageRefuses}
use Rattle.chr_node.proofs.staging.stage.Goals as goal

pub returns-then-ne-clause-refused : goal.returns-then-ne-clause-refused
returns-then-ne-clause-refused g c =
    let p = g.H.Holder.program c.args.holder.now in
    let m = g.H.Holder.operations c.args.holder.now in
    if_err (HolderRefuses p m c.args.op) (StageRefuses p m c.args.op) c.tell-told.result
    (refused_staged p m c.args.op) c.tell-told.ensures.refused

pub returns-else-ne-clause-refused : goal.returns-else-ne-clause-refused
returns-else-ne-clause-refused g c =
    let p = g.H.Holder.program c.args.holder.now in
    let m = g.H.Holder.operations c.args.holder.now in
    if_err (HolderRefuses p m c.args.op) (StageRefuses p m c.args.op) c.tell-told.result
    (refused_staged p m c.args.op) c.tell-told.ensures.refused
