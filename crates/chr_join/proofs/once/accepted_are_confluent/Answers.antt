use Rattle.chr_join.proofs.SortedConfluent.{accepted_confluent}
use Rattle.chr_join.proofs.once.accepted_are_confluent.Goals as goal

pub returns : goal.returns
returns c =
    accepted_confluent c.listed_confluence.ensures.confluent c.sorted_confluence.ensures.confluent (record {
      steps = record {
        cases = c.listed_cases.ensures.cases;
        sorted = c.sorted_cases.ensures.cases;
        left =
            c.peak.ensures.left;
        right = c.peak.ensures.right;
      };
      cover = c.combinations.ensures.cover;
      values = c.combinations.ensures.values;
    })
