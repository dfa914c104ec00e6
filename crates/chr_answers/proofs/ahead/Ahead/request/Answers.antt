use Rattle.chr_answers.specs.Requests.{IsHeard}
use Rattle.chr_answers.proofs.Requests.{taken}
use Rattle.chr_answers.proofs.ahead.Ahead.request.Goals as goal

pub returns-in-Some-clause-ahead : goal.returns-in-Some-clause-ahead
returns-in-Some-clause-ahead c = λ p text are. record {
  tells = are.tells;
  heard = (taken (IsHeard p text) _ _ _ c.next.ensures.items are.heard).1;
}

pub returns-in_default-clause-ahead : goal.returns-in_default-clause-ahead
returns-in_default-clause-ahead c = λ p text are. record {
  tells = are.tells;
  heard = (taken (IsHeard p text) _ _ _ c.next.ensures.items are.heard).1;
}
