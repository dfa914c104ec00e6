use Rattle.chr_weights.proofs.Ranks.{lowers_rank, rank_in}
use Rattle.chr_weights.specs.WeighedPrograms.{program_of, rules_in}
use Rattle.chr_join.proofs.Confluent.{refusal_refutes}
use Rattle.chr_join.proofs.SideSteps.{failing_replays}
use Rattle.chr_join.proofs.accepting.accept.Goals as goal

pub returns-in-Ok-new-clause-confluent : goal.returns-in-Ok-new-clause-confluent
returns-in-Ok-new-clause-confluent g c =
    c.accepted_are_confluent.ensures c.args.coverage (rules_in c.args.weighed) (rank_in (program_of c.args.weighed))
    c.in-Ok.cases (lowers_rank (program_of c.args.weighed) c.args.weighed.lowers) c.in-Ok.ensures.ok

pub returns-in-Err-clause-not_confluent : goal.returns-in-Err-clause-not_confluent
returns-in-Err-clause-not_confluent g c = refusal_refutes c.refused_are_not_confluent.ensures c.args.coverage
    (rules_in c.args.weighed) c.in-Err.cause c.in-Err.ensures.err

pub returns-in-Err-clause-replays : goal.returns-in-Err-clause-replays
returns-in-Err-clause-replays g c = failing_replays c.args.coverage (rules_in c.args.weighed) c.in-Err.cause
    c.in-Err.ensures.err
