-- Programs that differ in the weights of their symbols alone.
use Rattle.std.specs.Prelude.{◌≡◌, List, map}
use Rattle.chr_base.specs.declared.program.Program.{Program}
use Rattle.chr_base.specs.ProgramTests.{Declaration}
use Rattle.chr_base.specs.Programs.{declarations, rules_of}
use Rattle.chr_base.specs.Weights.{default_weight}
use Rattle.chr_weights.specs.Weights.{ProgramLowers}

-- the declarations, each with the default weight
abbrev pub without_weights : List Declaration → List Declaration
without_weights ds = map (λ (d : Declaration). record d { weight = default_weight }) ds

-- the same rules over the same symbols
pub record IsReweighed (p q : Program) : Type 0 where
  pub rules : rules_of q ≡ rules_of p
  pub symbols : without_weights (declarations q) ≡ without_weights (declarations p)

-- under no weights of its symbols each rule of the program lowers
abbrev pub HasNoWeights : Program → Type 0
HasNoWeights p = (q : Program) → IsReweighed p q → ¬ ProgramLowers q
