use Rattle.chr_base.specs.Rewriting.{Runs}
use Rattle.chr_base.specs.Rules.{Step}
use Rattle.chr_rewrite.proofs.list.ListPoolPool.advance.Given as goal

abbrev pub invariant-loop-steps : goal.invariant-loop-steps
invariant-loop-steps l = Runs (Step l.rules) l.steps l.fn.self l.self
