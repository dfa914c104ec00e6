use Rattle.std.proofs.Common.{◌≡◌, ℕ, ◌<◌}
use Rattle.std.specs.Prelude.{Some, slice_get}
use Rattle.chr_columns.specs.working.Making.{made_ways}
use Rattle.chr_columns.proofs.making.index_by.Given as goal

abbrev pub invariant-loop-i : goal.invariant-loop-i
invariant-loop-i l = (k : ℕ) → k < l.i → slice_get (made_ways l.keys) k ≡ Some (l.columns, l.order) → ⊥
