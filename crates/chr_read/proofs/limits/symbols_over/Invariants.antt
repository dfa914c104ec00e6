use Rattle.std.proofs.Common.{◌≡◌, map, drop}
use Rattle.std.specs.List.{list_any}
use Rattle.chr_syntax.specs.Views.{symbol_view}
use Rattle.chr_read.specs.Faults.{symbol_over}
use Rattle.chr_read.proofs.limits.symbols_over.Given as goal

abbrev pub invariant-loop-symbol : goal.invariant-loop-symbol
invariant-loop-symbol l = list_any symbol_over (map symbol_view (drop l.symbol-index l.symbols))
    ≡ list_any symbol_over (map symbol_view l.symbols)
