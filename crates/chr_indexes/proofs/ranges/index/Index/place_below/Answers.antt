use Rattle.std.proofs.Common.{arith}
use Rattle.chr_indexes.proofs.ranges.index.Index.place_below.Goals as goal

pub returns-clause-none_between : goal.returns-clause-none_between
returns-clause-none_between c = λ r l w. c.place_at_or_below.ensures.none_between r (omega (arith, l)) w
