use Rattle.std.proofs.Common.{◌≡◌, ◌<◌, ℕ, get_or, length}
use Rattle.chr_sorting.specs.declared.kind.Kind.TheVariants.{Free}
use Rattle.chr_sorting.specs.FinestSorts.{sort_in, kind_of}
use Rattle.chr_sorting.specs.working.Notes.{IsLeastKind}
use Rattle.chr_sorting.proofs.sorting.kinds.Given as goal

abbrev pub invariant-loop-sort : goal.invariant-loop-sort
invariant-loop-sort l = record {
  len : length l.kinds.items ≡ l.sort;
  each : (n : ℕ) → n < l.sort → IsLeastKind l.notes (sort_in l.sorts) n (kind_of (get_or l.kinds.items n Free));
}
