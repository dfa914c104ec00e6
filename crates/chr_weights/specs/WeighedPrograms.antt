-- What a weighed program is seen as.
use Rattle.std.specs.Prelude.{List}
use Rattle.chr_base.specs.declared.program.Program.{Program}
use Rattle.chr_base.specs.declared.rule.Rule.{Rule}
use Rattle.chr_base.specs.Programs.{rules_of}
use Rattle.chr_weights.specs.declared.weighed.Weighed.{Weighed}

abbrev pub program_of : Weighed → Program
program_of w = w.program

-- the rules of its program
abbrev pub rules_in : Weighed → List Rule
rules_in w = rules_of (program_of w)
