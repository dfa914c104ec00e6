use Rattle.chr_confluence.proofs.Newman.{rests, confluent_over}
use Rattle.std.specs.Prelude.{IsTrue}
use Rattle.chr_confluence.proofs.laws.newman.Goals as goal

pub returns-clause-rests : goal.returns-clause-rests
returns-clause-rests c = λ rules w lower s. rests rules w lower s

pub returns-clause-confluent : goal.returns-clause-confluent
returns-clause-confluent c = λ rules w ok lower stays peaks. confluent_over rules w
    (λ s. IsTrue (ok s)) lower stays peaks
