use Rattle.std.proofs.Common.{◌≡◌, map, take}
use Rattle.chr_columns.specs.working.Sitting.{after_move}
use Rattle.chr_columns.proofs.taking.followed.Given as goal

abbrev pub invariant-loop-row : goal.invariant-loop-row
invariant-loop-row l = l.all.items ≡ map (after_move l.last l.to) (take l.row-index l.rows)
