use Rattle.chr_indexes.specs.RangedRows.{IsWanted}
use Rattle.chr_indexes.proofs.EntriesBelow.{found_newest, found_none}
use Rattle.chr_indexes.proofs.ranges.index.Index.first.Goals as goal

pub returns-clause-newest : goal.returns-clause-newest
returns-clause-newest c = found_newest (λ other. IsWanted c.args.self.now.rows c.args.hash c.args.range.now other)
    c.checked_sub.result c.first_place.result c.checked_sub.ensures c.first_place.ensures.none_above

pub returns-clause-none : goal.returns-clause-none
returns-clause-none c = found_none (λ other. IsWanted c.args.self.now.rows c.args.hash c.args.range.now other)
    c.checked_sub.result c.first_place.result c.checked_sub.ensures c.first_place.ensures.none_above
