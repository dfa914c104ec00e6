use Rattle.std.proofs.Common.{sym, subst}
use Rattle.chr_weights.specs.WeighedPrograms.{rules_in}
use Rattle.chr_types.proofs.Walking.{ok_then}
use Rattle.chr_join.specs.working.Ends.{EndsIn}
use Rattle.chr_join.proofs.ends.Ends.end_of.Goals as goal

pub returns-in-Some-clause-end : goal.returns-in-Some-clause-end
returns-in-Some-clause-end c =
    ok_then c.copy.result _ (EndsIn (rules_in c.args.weighed.now) c.args.store)
    (λ end same. subst (EndsIn (rules_in c.args.weighed.now) c.args.store) (sym same)
    (c.in-Some.ensures (rules_in c.args.weighed.now) c.requires)) c.copy.ensures
