use Rattle.chr_worlds.proofs.RestedRuns.{rested_runs}
use Rattle.chr_worlds.proofs.laws.rested_tells_are_runs.Goals as goal

pub returns : goal.returns
returns c = λ p w v r carried ops rested lease h. rested_runs p w v r carried ops rested lease h
