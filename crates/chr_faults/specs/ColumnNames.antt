-- The names of a symbol's columns.
use Rattle.std.specs.Prelude.{◌≡◌, List, Some, length, option_map, slice_get}
use Rattle.chr_base.specs.ProgramTests.{Declaration}
use Rattle.chr_base.specs.declared.atom.SymbolId.{SymbolId}
use Rattle.chr_faults.specs.declared.columns.ColumnNames.{ColumnNames}

-- they are of columns of this symbol
abbrev pub AreFor : SymbolId → ColumnNames → Type 0
AreFor symbol c = c.symbol ≡ symbol

-- the symbol is declared, and there are as many names as it has arguments
abbrev pub AreNames : List Declaration → ColumnNames → Type 0
AreNames ds c = option_map (λ d. d.arity) (slice_get ds c.symbol.0) ≡ Some (length c.names.items)
