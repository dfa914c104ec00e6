use Rattle.chr_join.proofs.OnceVerdicts.{accepted_once, refused_once, never_both}
use Rattle.chr_join.proofs.once.verdict_is_one.Goals as goal

pub returns-clause-accepted : goal.returns-clause-accepted
returns-clause-accepted c = λ coverage rules n m a b. accepted_once coverage rules n m a b

pub returns-clause-refused : goal.returns-clause-refused
returns-clause-refused c = λ coverage rules e g h k n m. refused_once coverage rules e g h k n m

pub returns-clause-either : goal.returns-clause-either
returns-clause-either c = λ coverage rules n e a h. never_both coverage rules n e a h
