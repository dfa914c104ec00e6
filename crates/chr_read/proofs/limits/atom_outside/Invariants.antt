use Rattle.std.proofs.Common.{◌≡◌, map, drop}
use Rattle.std.specs.List.{list_any}
use Rattle.chr_syntax.specs.Views.{term_view}
use Rattle.chr_read.specs.Faults.{is_outside}
use Rattle.chr_read.proofs.limits.atom_outside.Given as goal

abbrev pub invariant-loop-term : goal.invariant-loop-term
invariant-loop-term l = list_any is_outside (map term_view (drop l.term-index l.term-items))
    ≡ list_any is_outside (map term_view l.term-items)
