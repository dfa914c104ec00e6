use Rattle.std.proofs.Common.{◌*◌}
use Rattle.chr_portions.specs.working.Skips.{Covers}
use Rattle.chr_portions.proofs.skips.own_hull.Given as goal

abbrev pub invariant-loop-place : goal.invariant-loop-place
invariant-loop-place l = Covers l.records (8 * l.block) l.place l.hull
