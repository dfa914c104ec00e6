use Rattle.chr_indexes.specs.RangedRows.{IsWanted}
use Rattle.chr_indexes.proofs.EntriesBelow.{found_newest_to, found_none_to}
use Rattle.chr_indexes.proofs.ranges.index.Index.at_or_below.Goals as goal

pub returns-clause-newest : goal.returns-clause-newest
returns-clause-newest c = found_newest_to (λ other. IsWanted c.args.self.now.rows c.args.hash c.args.range.now other)
    c.args.row c.checked_sub.result c.place_at_or_below.result c.checked_sub.ensures
    c.place_at_or_below.ensures.none_between

pub returns-clause-none : goal.returns-clause-none
returns-clause-none c = found_none_to (λ other. IsWanted c.args.self.now.rows c.args.hash c.args.range.now other)
    c.args.row c.checked_sub.result c.place_at_or_below.result c.checked_sub.ensures
    c.place_at_or_below.ensures.none_between
