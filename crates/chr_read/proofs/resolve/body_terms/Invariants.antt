use Rattle.std.proofs.Common.{◌≡◌, ◌++◌, drop, map, length}
use Rattle.chr_syntax.specs.Views.{term_view}
use Rattle.chr_read.specs.Resolving.{resolved_term}
use Rattle.chr_read.specs.working.Views.{names_view}
use Rattle.chr_read.proofs.resolve.body_terms.Given as goal

abbrev pub invariant-loop-term : goal.invariant-loop-term
invariant-loop-term l = record {
  found : l.found.items ++ map (resolved_term (names_view l.names)) (map term_view (drop l.term-index l.terms))
      ≡ map (resolved_term (names_view l.names)) (map term_view l.terms);
  count : length l.found.items ≡ l.term-index;
}
