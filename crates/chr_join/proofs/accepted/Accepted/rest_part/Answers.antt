use Rattle.std.proofs.Common.{rules, ◌≡◌, subst}
use Rattle.chr_base.specs.Rules.{Step}
use Rattle.chr_base.specs.Rewriting.{IsNormalForm}
use Rattle.chr_weights.specs.WeighedPrograms.{rules_in}
use Rattle.chr_join.specs.AcceptedPrograms.{weighed_of}
use Rattle.chr_join.proofs.accepted.Accepted.rest_part.Goals as goal

pub returns-in-Ok-rested-clause-end : goal.returns-in-Ok-rested-clause-end
returns-in-Ok-rested-clause-end c =
    let same : c.deref.result.now ≡ weighed_of c.args.self.now = search rules in
    let normal : IsNormalForm (Step (rules_in (weighed_of c.args.self.now))) c.args.lease.part c.in-Ok-rested.end =
    subst (λ w. IsNormalForm (Step (rules_in w)) c.args.lease.part c.in-Ok-rested.end) same c.in-Ok-rested.ensures in
    rw c.of.ensures.end (record {
      normal = normal;
      only =
          λ u h. c.args.self.now.confluent _ u _ c.has_values.ensures h normal;
    })
