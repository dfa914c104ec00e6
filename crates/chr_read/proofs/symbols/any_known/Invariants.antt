use Rattle.std.proofs.Common.{◌≡◌, map, drop}
use Rattle.std.specs.List.{list_any}
use Rattle.chr_base.specs.Programs.{declarations}
use Rattle.chr_syntax.specs.Views.{symbol_view}
use Rattle.chr_read.specs.working.RuleParts.{is_declared_already}
use Rattle.chr_read.proofs.symbols.any_known.Given as goal

abbrev pub invariant-loop-symbol : goal.invariant-loop-symbol
invariant-loop-symbol l = list_any (is_declared_already (declarations l.program))
    (map symbol_view (drop l.symbol-index l.symbols)) ≡ list_any (is_declared_already (declarations l.program))
    (map symbol_view l.symbols)
