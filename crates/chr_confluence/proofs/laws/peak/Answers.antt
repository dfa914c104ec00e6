use Rattle.chr_confluence.proofs.CaseMatchings.{matching_of}
use Rattle.chr_confluence.proofs.CaseSteps as lemmas
use Rattle.chr_confluence.proofs.laws.peak.Goals as goal

pub returns-clause-peaks : goal.returns-clause-peaks
returns-clause-peaks c = λ r1 r2 v1 v2 s t u h g. lemmas.peak r1 r2 v1 v2 s t u h g

pub returns-clause-matched : goal.returns-clause-matched
returns-clause-matched c = λ r1 r2 m v1 v2 case. matching_of r1 r2 m v1 v2 case

pub returns-clause-left : goal.returns-clause-left
returns-clause-left c = λ r1 r2 m v1 v2 case. lemmas.left_step r1 r2 m v1 v2 case

pub returns-clause-right : goal.returns-clause-right
returns-clause-right c = λ r1 r2 m v1 v2 case. lemmas.right_step r1 r2 m v1 v2 case
