use Rattle.std.proofs.Common.{◌≡◌, map, take}
use Rattle.chr_columns.specs.working.Sitting.{row_from}
use Rattle.chr_columns.proofs.rows.rows_at.Given as goal

abbrev pub invariant-loop-number : goal.invariant-loop-number
invariant-loop-number l = l.rows.items ≡ map (λ s. row_from l.tables 0 s.row) (take l.number-index l.numbers)
