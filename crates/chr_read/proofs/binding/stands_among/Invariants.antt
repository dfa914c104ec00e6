use Rattle.std.proofs.Common.{◌≡◌, map, drop}
use Rattle.std.specs.List.{list_any}
use Rattle.chr_syntax.specs.Views.{term_view}
use Rattle.chr_read.specs.Faults.{is_named}
use Rattle.chr_read.proofs.binding.stands_among.Given as goal

abbrev pub invariant-loop-term : goal.invariant-loop-term
invariant-loop-term l = list_any (is_named l.name) (map term_view (drop l.term-index l.terms))
    ≡ list_any (is_named l.name) (map term_view l.terms)
