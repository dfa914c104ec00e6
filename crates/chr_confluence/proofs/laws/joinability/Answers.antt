use Rattle.chr_confluence.proofs.Confluent.{joinable, one_normal_form}
use Rattle.chr_confluence.proofs.laws.joinability.Goals as goal

pub returns-clause-joinable : goal.returns-clause-joinable
returns-clause-joinable c = λ rules w lower one. joinable rules w lower one

pub returns-clause-confluent : goal.returns-clause-confluent
returns-clause-confluent c = λ rules joins. one_normal_form rules joins
