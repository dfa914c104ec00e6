use Rattle.std.proofs.Common.{◌≡◌}
use Rattle.chr_base.specs.Stores.{store_of}
use Rattle.chr_printing.specs.working.Printing.{flats_atoms}
use Rattle.chr_printing.proofs.flats.sort_each.Given as goal

abbrev pub invariant-loop-place : goal.invariant-loop-place
invariant-loop-place l = store_of (flats_atoms l.flats.items) ≡ store_of (flats_atoms l.fn.flats.items)
