use Rattle.std.proofs.Common.{◌≡◌, take}
use Rattle.chr_plans.specs.Keys.{key_of}
use Rattle.chr_tables.proofs.indexes.read_key.Given as goal

abbrev pub invariant-loop-column : goal.invariant-loop-column
invariant-loop-column l = l.key.items ≡ key_of (take l.column-index l.columns.items) l.atom
