use Rattle.std.proofs.Common.{◌≡◌, ◌+◌, ◌++◌, ◌≤◌, drop, map, length}
use Rattle.chr_syntax.specs.Views.{term_view}
use Rattle.chr_read.specs.Resolving.{head_terms, after_terms}
use Rattle.chr_read.specs.working.Views.{names_view}
use Rattle.chr_read.proofs.resolve.head_terms.Given as goal

abbrev pub invariant-loop-term : goal.invariant-loop-term
invariant-loop-term l = record {
  found : l.found.items ++ head_terms (names_view l.names.items) (map term_view (drop l.term-index l.terms))
      ≡ head_terms (names_view l.fn.names.items) (map term_view l.terms);
  names : after_terms (names_view l.names.items) (map term_view (drop l.term-index l.terms))
      ≡ after_terms (names_view l.fn.names.items) (map term_view l.terms);
  bound : length l.names.items ≤ length l.fn.names.items + l.term-index;
  count : length l.found.items ≡ l.term-index;
}
