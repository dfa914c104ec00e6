use Rattle.std.proofs.Common.{◌≡◌, ◌+◌, drop, option_map, position}
use Rattle.std.specs.Str.{bytes_eq}
use Rattle.chr_read.specs.working.Views.{names_view}
use Rattle.chr_read.proofs.resolve.met_at.Given as goal

abbrev pub invariant-loop-i : goal.invariant-loop-i
invariant-loop-i l = option_map (λ k. l.i + k) (position (bytes_eq l.name) (names_view (drop l.i l.names)))
    ≡ position (bytes_eq l.name) (names_view l.names)
