use Rattle.std.proofs.Common.{subst, sym}
use Rattle.std.proofs.lemmas.Result.{IfOk-weaker}
use Rattle.chr_ops.specs.News.{LacksOnly}
use Rattle.chr_worlds.specs.working.Boards.{AreLacked}
use Rattle.chr_worlds.proofs.Gaining.{lacked_are}
use Rattle.chr_worlds.proofs.boards.lacked_among.Goals as goal

pub returns : goal.returns
returns c =
    let m = c.ops.result.now in
    let n = c.ops-2.result.now in
    let ids = c.args.ids.now in
    let only = subst (λ m. LacksOnly m n ids) (sym c.ops.ensures)
    (subst (λ n. LacksOnly c.args.giver.now.replica.operations n ids) (sym c.ops-2.ensures) c.requires) in
    IfOk-weaker c.lacked_among.result _ _ (λ ops all.
    subst (λ m. AreLacked m c.args.taker.now.replica.operations ops.items) c.ops.ensures
    (subst (λ n. AreLacked m n ops.items) c.ops-2.ensures
    (lacked_are c.summaries_are_one.ensures.exist m n ids ops.items only all))) c.lacked_among.ensures.all
