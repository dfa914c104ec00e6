use Rattle.std.proofs.Common.{sym, ◌∙◌}
use Rattle.chr_ops.proofs.OneSummary.{one}
use Rattle.chr_ops.proofs.RangesThere.{summaries_there}
use Rattle.chr_ops.proofs.summary.summaries_are_one.Goals as goal

pub returns-clause-ranges : goal.returns-clause-ranges
returns-clause-ranges c = λ rs ss apart apart' same. one rs ss apart apart' same

pub returns-clause-summaries : goal.returns-clause-summaries
returns-clause-summaries c = λ m rs ss apart apart' covers covers'. one rs ss apart apart'
    (λ id. covers id ∙ sym (covers' id))

pub returns-clause-exist : goal.returns-clause-exist
returns-clause-exist c = summaries_there
