-- What is told of the weights that a program can have.
use Rattle.chr_base.specs.declared.program.Program.{Program}
use Rattle.chr_weights.specs.Weights.{ProgramLowers}
use Rattle.chr_weights.specs.WeighedPrograms.{program_of}
use Rattle.chr_weighing.specs.declared.weighing.Weighing.{Weighing}
use Rattle.chr_weighing.specs.declared.weighing.Weighing.TheVariants.{Weights, Cycle, Unknown}
use Rattle.chr_weighing.specs.Reweighing.{IsReweighed, HasNoWeights}
use Rattle.chr_weighing.specs.Cycles.{IsCycle}

-- weights under which each rule lowers, or a cycle, which shows that there are none
abbrev pub IsWeighing : Program → Weighing → Type 0
IsWeighing p (Weights w) = IsReweighed p (program_of w) × ProgramLowers (program_of w)
IsWeighing p (Cycle c) = IsCycle p c.times.items × HasNoWeights p
IsWeighing p Unknown = Unit {0}
