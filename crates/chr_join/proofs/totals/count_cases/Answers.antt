use Rattle.chr_weights.proofs.Ranks.{lowers_rank, rank_in}
use Rattle.chr_weights.specs.WeighedPrograms.{program_of, rules_in}
use Rattle.chr_join.specs.working.Visits.{Setting}
use Rattle.chr_join.proofs.Counted.{cases_counted}
use Rattle.chr_join.proofs.totals.count_cases.Goals as goal

pub returns-clause-number : goal.returns-clause-number
returns-clause-number c =
    let s : Setting = record { weighed = c.args.weighed.now; overlap = c.args.overlap.now; unified = c.args.unified } in
    let p = program_of c.args.weighed.now in
    cases_counted s c.args.constants.now c.count.result c.requires.unified c.requires.constants c.requires.few
    (c.joint_cases_join.ensures (rules_in s.weighed) (rank_in p) (lowers_rank p c.args.weighed.now.lowers)
    c.requires.confluent s.overlap c.requires.overlap) c.count.ensures.number
