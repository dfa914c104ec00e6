-- What a text means: declarations and rules as plain data.
use Rattle.std.specs.Prelude.{ℕ, List, [], map}
use Rattle.chr_base.specs.declared.program.Program.{Program}
use Rattle.chr_base.specs.ProgramTests.{Declaration}
use Rattle.chr_base.specs.Sameness.{Parts, parts_of}
use Rattle.chr_base.specs.Programs.{declarations, rules_of}

-- the declared symbols in order, and the rules in order
pub record Meaning : Type 0 where
  pub declarations : List Declaration
  pub rules : List Parts

abbrev pub meaning_of : Program → Meaning
meaning_of p = record { declarations = declarations p; rules = map parts_of (rules_of p) }

-- what the clauses so far have made, and the places of the symbols that have had a weight clause
pub record Progress : Type 0 where
  pub meaning : Meaning
  pub weighed : List ℕ

-- before the first clause
abbrev pub nothing : Progress
nothing = record { meaning = record { declarations = []; rules = [] }; weighed = [] }
