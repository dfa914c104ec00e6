use Rattle.std.proofs.Common.{◌≡◌, take, map}
use Rattle.chr_tables.specs.Contents.{Contents}
use Rattle.chr_plans.specs.Grids.{without_rows}
use Rattle.chr_columns.specs.working.Resting.{grid}
use Rattle.chr_columns.proofs.Stored.{AsMany}
use Rattle.chr_columns.proofs.rested.kill_all.Given as goal

abbrev pub invariant-loop-seat : goal.invariant-loop-seat
invariant-loop-seat l = record {
  rows : grid l.tables.tables.items ≡ without_rows (grid l.fn.tables.tables.items) (take l.seat-index l.seats);
  keys : map (λ (c : Contents). c.keys) l.tables.tables.items ≡ map (λ (c : Contents). c.keys) l.fn.tables.tables.items;
  many : AsMany l.tables.tables.items l.fn.tables.tables.items;
}
