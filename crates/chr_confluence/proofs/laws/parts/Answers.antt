use Rattle.chr_confluence.specs.laws.Parts.{whole}
use Rattle.chr_confluence.proofs.Confluent.{rested}
use Rattle.chr_confluence.proofs.laws.parts.Goals as goal

pub returns-clause-reached : goal.returns-clause-reached
returns-clause-reached c = λ rules ss ts t h p. rested rules ss ts t h p

pub returns-clause-determined : goal.returns-clause-determined
returns-clause-determined c = λ rules ss ts t u confluent values h p q. confluent (whole rules ss) t u values
    (rested rules ss ts t h p) q
