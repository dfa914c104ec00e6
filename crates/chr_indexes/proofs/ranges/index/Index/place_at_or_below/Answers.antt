use Rattle.std.proofs.Common.{◌-◌, ap, arith}
use Rattle.chr_indexes.proofs.EntriesBelow.{wanted_sought, sought_wanted}
use Rattle.chr_indexes.proofs.ranges.index.Index.place_at_or_below.Goals as goal

pub returns-clause-wanted : goal.returns-clause-wanted
returns-clause-wanted c = λ some.
    rw (ap (λ x. x.rows) c.self.view_is) at (sought_wanted c.self.inside.rows.items c.args.hash c.args.range.now
    (c.seek.result - 1)
    (rw c.deref-2.ensures.value at (c.seek.ensures.sought some)))

pub returns-clause-none_between : goal.returns-clause-none_between
returns-clause-none_between c = λ r l w.
    let s = wanted_sought c.self.inside.rows.items c.args.hash c.args.range.now r
    (rw (← ap (λ x. x.rows) c.self.view_is) at w) in
    (rw c.deref-2.ensures.value at c.seek.ensures.none_between) r (omega (arith, l)) s
