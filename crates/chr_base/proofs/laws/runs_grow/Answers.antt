use Rattle.chr_base.specs.Programs.{rules_of}
use Rattle.chr_base.proofs.Steps.{Runs-grows}
use Rattle.chr_base.proofs.laws.runs_grow.Goals as goal

pub returns : goal.returns
returns c = λ p n s t more h. Runs-grows (rules_of p) n s t more h
