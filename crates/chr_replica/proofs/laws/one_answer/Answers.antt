use Rattle.chr_replica.proofs.OneAnswer.{one_answer}
use Rattle.chr_replica.proofs.laws.one_answer.Goals as goal

pub returns : goal.returns
returns c = λ p q s t same confluent values equal sound sound' settled settled'. one_answer p q s t same confluent
    values equal sound sound' settled settled'
