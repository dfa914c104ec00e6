-- When a symbol can be declared.
use Rattle.std.specs.Prelude.{List, [], ◌∷◌, ◌++◌, length, Bool, true, not, ◌&&◌, nat_lt}
use Rattle.chr_base.specs.declared.limits.TheConstants.{MAX_SYMBOLS}
use Rattle.chr_base.specs.ProgramTests.{Declaration}
use Rattle.chr_syntax.specs.Clauses.{Symbol}
use Rattle.chr_read.specs.Faults.{symbol_over}
use Rattle.chr_read.specs.working.RuleParts.{is_declared_already}
use Rattle.chr_read.specs.Reading.{declared_symbol}

-- there is room for the symbol, its name and arity are within the limits, and it is not declared
abbrev pub can_declare : List Declaration → Symbol → Bool
can_declare ds s = nat_lt (length ds) MAX_SYMBOLS && not (symbol_over s) && not (is_declared_already ds s)

-- these symbols can be declared, one after another
abbrev pub can_declare_all : List Declaration → List Symbol → Bool
can_declare_all ds [] = true
can_declare_all ds (s ∷ ss) = can_declare ds s && can_declare_all (ds ++ declared_symbol s ∷ []) ss
