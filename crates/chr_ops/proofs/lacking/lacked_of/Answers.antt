use Rattle.std.proofs.Common.{ap, ◌∙◌}
use Rattle.std.proofs.lemmas.Result.{IfOk-weaker}
use Rattle.chr_ops.specs.Summaries.{covers}
use Rattle.chr_ops.proofs.Newness.{covered_among}
use Rattle.chr_ops.proofs.lacking.lacked_of.Goals as goal

pub returns : goal.returns
returns c =
    IfOk-weaker c.covered_in.result _ _ (λ ops found.
    found
    ∙ covered_among c.args.held.now c.args.other.now c.args.ids.now c.ranges-2.result.now
    (λ id. ap (λ rs. covers rs id) c.ranges-2.ensures.ranges ∙ c.in_ok-wanted.ensures id
    ∙ c.in_ok-ranges_not_held.ensures.covers id)) c.covered_in.ensures
