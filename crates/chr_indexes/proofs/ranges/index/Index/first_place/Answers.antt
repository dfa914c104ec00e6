use Rattle.std.proofs.Common.{◌≡◌, ◌-◌, length, get_or, vec_len, arith, ap, ◌∙◌}
use Rattle.chr_indexes.proofs.EntriesBelow.{wanted_sought, sought_wanted, first_above}
use Rattle.chr_indexes.proofs.ranges.index.Index.first_place.Goals as goal

pub returns-clause-wanted : goal.returns-clause-wanted
returns-clause-wanted c = λ some.
    rw (ap (λ x. x.rows) c.self.view_is) at (sought_wanted c.self.inside.rows.items c.args.hash c.args.range.now
    (c.seek.result - 1)
    (rw c.deref.ensures.value at (c.seek.ensures.sought some)))

pub returns-clause-none_above : goal.returns-clause-none_above
returns-clause-none_above c = λ r w.
    let size : vec_len c.self.inside.chains.heads ≡ length c.self.inside.chains.heads.items =
    omega (arith, c.self.inside.chains.heads.ok.0) in
    let s = wanted_sought c.self.inside.rows.items c.args.hash c.args.range.now r
    (rw (← ap (λ x. x.rows) c.self.view_is) at w) in
    (rw c.deref.ensures.value at c.seek.ensures.none_between) r
    (first_above c.self.inside.rows.items c.self.inside.chains.links.items c.self.inside.chains.heads.items c.args.hash
    c.args.range.now c.len.result c.index-from.result.now r
    c.self.invariant (c.len.ensures ∙ size)
    (c.index-from.ensures ∙ ap (λ k. get_or c.self.inside.chains.heads.items k c.index-from.result.now)
    c.slot_for.ensures) s) s
