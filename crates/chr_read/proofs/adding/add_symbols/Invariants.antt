use Rattle.std.proofs.Common.{◌≡◌, ◌++◌, drop, map, true}
use Rattle.std.specs.List.{list_all}
use Rattle.chr_base.specs.Names.{is_name}
use Rattle.chr_base.specs.Programs.{declarations, rules_of}
use Rattle.chr_syntax.specs.Views.{symbol_view}
use Rattle.chr_read.specs.working.Adding.{can_declare_all}
use Rattle.chr_read.specs.Reading.{declared_symbol}
use Rattle.chr_read.proofs.adding.add_symbols.Given as goal

abbrev pub invariant-loop-symbol : goal.invariant-loop-symbol
invariant-loop-symbol l = record {
  symbols : declarations l.program ++ map declared_symbol (map symbol_view (drop l.symbol-index l.symbols))
      ≡ declarations l.fn.program ++ map declared_symbol (map symbol_view l.symbols);
  rules : rules_of l.program ≡ rules_of l.fn.program;
  words : list_all is_name (map (λ s. s.name) (map symbol_view (drop l.symbol-index l.symbols))) ≡ true;
  can : can_declare_all (declarations l.program) (map symbol_view (drop l.symbol-index l.symbols)) ≡ true;
}
