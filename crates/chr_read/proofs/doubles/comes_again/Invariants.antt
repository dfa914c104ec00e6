use Rattle.std.proofs.Common.{◌≡◌, List, [], map, drop}
use Rattle.chr_syntax.specs.Clauses.{Symbol}
use Rattle.chr_syntax.specs.Views.{symbol_view}
use Rattle.chr_read.specs.working.RuleParts.{comes_again}
use Rattle.chr_read.proofs.SeenSymbols.{Key, has_key, among}
use Rattle.chr_read.proofs.doubles.comes_again.Given as goal

abbrev pub invariant-loop-symbol : goal.invariant-loop-symbol
invariant-loop-symbol l =
    (earlier : List Symbol) × ((q : Key) → has_key q l.seen.keys ≡ among q.0.now q.1.now earlier)
    × (comes_again earlier (map symbol_view (drop l.symbol-index l.symbols)) ≡ comes_again []
    (map symbol_view l.symbols))
