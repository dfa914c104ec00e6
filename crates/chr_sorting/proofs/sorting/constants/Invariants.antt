use Rattle.std.proofs.Common.{◌≡◌, ◌<◌, ℕ, [], get_or, length, map}
use Rattle.chr_overlaps.specs.working.Gathering.{AreConstantsIn}
use Rattle.chr_sorting.specs.FinestSorts.{sort_in}
use Rattle.chr_sorting.specs.working.Notes.{terms_at}
use Rattle.chr_sorting.proofs.sorting.constants.Given as goal

abbrev pub invariant-loop-sort : goal.invariant-loop-sort
invariant-loop-sort l = record {
  len : length l.found.items ≡ l.sort;
  each : (n : ℕ) → n < l.sort → AreConstantsIn (terms_at (sort_in l.sorts) n l.notes)
      (get_or (map (λ cs. cs.items) l.found.items) n []);
}
