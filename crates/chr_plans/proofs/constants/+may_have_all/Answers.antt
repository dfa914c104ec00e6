use Rattle.chr_plans.proofs.RuledOut.{first_differs, others_differ}
use Rattle.chr_plans.proofs.constants.+may_have_all.Goals as goal

pub returns-then-not-may_have : goal.returns-then-not-may_have
returns-then-not-may_have t c =
    first_differs c.args.terms.now c.args.values.now _ _ c.in-len1-up.len_at_least c.in-len1-up-values.len_at_least
    c.if-not-may_have.ensures

pub returns : goal.returns
returns t c =
    others_differ c.args.terms.now c.args.values.now c.may_have_all.result c.in-len1-up.len_at_least
    c.in-len1-up-values.len_at_least c.may_have_all.ensures
