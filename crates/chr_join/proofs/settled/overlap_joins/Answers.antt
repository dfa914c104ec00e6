use Rattle.chr_sorting.specs.FinestSorts.{sorts_of}
use Rattle.chr_weights.specs.WeighedPrograms.{rules_in}
use Rattle.chr_join.proofs.Visits.{no_sorted_cases}
use Rattle.chr_join.proofs.settled.overlap_joins.Goals as goal

pub returns-in_default : goal.returns-in_default
returns-in_default c = (
  0,
  no_sorted_cases (rules_in c.args.weighed.now)
      (sorts_of c.args.sorting.now) c.args.overlap.now c.requires.finest c.in_default.ensures.none,
)
