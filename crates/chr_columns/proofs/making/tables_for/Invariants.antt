use Rattle.std.proofs.Common.{◌≡◌, ℕ, map, take}
use Rattle.std.specs.Prelude.{None}
use Rattle.chr_tables.specs.Contents.{rows_of}
use Rattle.chr_columns.specs.working.Making.{lists_of}
use Rattle.chr_columns.proofs.making.tables_for.Given as goal

abbrev pub invariant-loop-keys : goal.invariant-loop-keys
invariant-loop-keys l = record {
  rows : (t n : ℕ) → rows_of l.tables.items t n ≡ None;
  keys : map (λ t. t.keys) l.tables.items ≡ map lists_of (take l.keys-index l.keys);
}
