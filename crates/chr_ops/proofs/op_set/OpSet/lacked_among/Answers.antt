use Rattle.std.proofs.Common.{ap, ◌∙◌}
use Rattle.std.proofs.lemmas.Result.{IfOk-weaker}
use Rattle.chr_ops.specs.News.{lacked_among}
use Rattle.chr_ops.proofs.Newness.{among_lacking}
use Rattle.chr_ops.proofs.op_set.OpSet.lacked_among.Goals as goal

pub returns-clause-all : goal.returns-clause-all
returns-clause-all c =
    let ids = c.args.ids.now in
    IfOk-weaker c.lacked_of.result _ _ (λ ops found lacks summary just.
    found ∙ ap (λ m. lacked_among m c.other.inside.held ids) c.self.view_is
    ∙ ap (λ n. lacked_among c.args.self.now n ids) c.other.view_is
    ∙ among_lacking c.args.self.now c.args.other.now ids summary lacks just) c.lacked_of.ensures
