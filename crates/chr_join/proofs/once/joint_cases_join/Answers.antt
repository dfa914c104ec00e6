use Rattle.chr_join.proofs.ConfluentJoins.{confluent_joins}
use Rattle.chr_join.proofs.once.joint_cases_join.Goals as goal

pub returns : goal.returns
returns c =
    confluent_joins c.listed_confluence.ensures.failing
    (record {
      cases = c.listed_cases.ensures.cases;
      sorted = c.sorted_cases.ensures.cases;
      left = c.peak.ensures.left;
      right = c.peak.ensures.right;
    })
