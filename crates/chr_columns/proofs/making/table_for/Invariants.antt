use Rattle.std.proofs.Common.{◌≡◌, [], map, take}
use Rattle.chr_columns.specs.working.Making.{made_way}
use Rattle.chr_columns.proofs.making.table_for.Given as goal

abbrev pub invariant-loop-way : goal.invariant-loop-way
invariant-loop-way l = record {
  rows : l.table.rows ≡ [];
  keys : l.table.keys ≡ map (λ w. w.0) (map made_way (take l.way-index l.keys.ways.items));
}
