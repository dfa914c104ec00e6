use Rattle.std.proofs.Common.{rules, ◌≡◌, sym, subst}
use Rattle.std.specs.Arc.{arc_value}
use Rattle.chr_weights.specs.WeighedPrograms.{rules_in}
use Rattle.chr_confluence.specs.Confluence.{Confluent}
use Rattle.chr_join.proofs.accepted.Accepted.weighed.Goals as goal

pub returns-clause-confluent : goal.returns-clause-confluent
returns-clause-confluent c =
    let same : c.deref.result.now ≡ arc_value c.args.self.now.weighed = search rules in
    subst (λ w. Confluent (rules_in w)) (sym same) c.args.self.now.confluent
