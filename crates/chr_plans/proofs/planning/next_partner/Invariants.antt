use Rattle.chr_plans.specs.working.Choosing.{IsChoice}
use Rattle.chr_plans.proofs.planning.next_partner.Given as goal

abbrev pub invariant-loop-place : goal.invariant-loop-place
invariant-loop-place l = IsChoice l.rule l.known l.place l.best
