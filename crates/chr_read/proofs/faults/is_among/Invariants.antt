use Rattle.std.proofs.Common.{◌≡◌, nat_eq, drop}
use Rattle.std.specs.List.{list_any}
use Rattle.chr_read.specs.working.Views.{places_view}
use Rattle.chr_read.proofs.faults.is_among.Given as goal

abbrev pub invariant-loop-other : goal.invariant-loop-other
invariant-loop-other l = list_any (nat_eq l.symbol.0) (places_view (drop l.other-index l.symbols))
    ≡ list_any (nat_eq l.symbol.0) (places_view l.symbols)
