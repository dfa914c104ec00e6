use Rattle.std.proofs.Common.{[], ◌∷◌, arith}
use Rattle.chr_sorting.proofs.ListsThere.{free_list}
use Rattle.chr_sorting.proofs.lists.free_lists.Goals as goal

pub returns-then-limit-eq0-clause-more : goal.returns-then-limit-eq0-clause-more
returns-then-limit-eq0-clause-more c =
    let us = c.in_ok-numbers.numbers.items in
    let none = c.if-limit-eq0.true in (
      us ∷ [],
      free_list c.args.constants.now us c.args.count c.in_ok-numbers.ensures.count
          c.in_ok-numbers.ensures.first,
      omega (arith, none),
    )
