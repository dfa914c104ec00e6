use Rattle.chr_join.proofs.SortedConfluent.{refused_not_confluent}
use Rattle.chr_join.proofs.once.refused_are_not_confluent.Goals as goal

pub returns : goal.returns
returns c =
    refused_not_confluent c.listed_confluence.ensures.failing c.sorted_confluence.ensures.failing (record {
      steps = record {
        cases = c.listed_cases.ensures.cases;
        sorted = c.sorted_cases.ensures.cases;
        left =
            c.peak.ensures.left;
        right = c.peak.ensures.right;
      };
      cover = c.combinations.ensures.cover;
      values = c.combinations.ensures.values;
    })
