use Rattle.std.proofs.Common.{◌≡◌, sym, subst}
use Rattle.std.specs.Arc.{arc_value}
use Rattle.std.proofs.lemmas.Grind.{merely}
use Rattle.chr_weights.proofs.Ranks.{lowers_rank, rank_in}
use Rattle.chr_weights.specs.WeighedPrograms.{program_of, rules_in}
use Rattle.chr_confluence.specs.Confluence.{Confluent}
use Rattle.chr_join.specs.Verdicts.{IsAcceptedBy}
use Rattle.chr_join.proofs.accepted.Accepted.new.Goals as goal

pub invariant_of-result : goal.invariant_of-result
invariant_of-result c =
    let same : arc_value c.in_ok-weighed.weighed ≡ c.args.weighed = c.in_ok-weighed.ensures.ok in
    let confluent : Confluent (rules_in c.args.weighed) =
    c.accepted_are_confluent.ensures c.args.coverage (rules_in c.args.weighed) (rank_in (program_of c.args.weighed))
    c.args.cases (lowers_rank (program_of c.args.weighed) c.args.weighed.lowers) c.requires in
    record {
      accepted = merely (subst (λ w. IsAcceptedBy c.args.coverage (rules_in w) c.args.cases) (sym same) c.requires);
      confluent = subst (λ w. Confluent (rules_in w)) (sym same) confluent;
    }
