use Rattle.std.proofs.Common.{◌-◌, ◌%◌, length, arith, ap, sym, ◌∙◌}
use Rattle.chr_indexes.proofs.RangeLinks.{read}
use Rattle.chr_indexes.proofs.EntriesBelow.{wanted_sought, sought_wanted, hash_lives}
use Rattle.chr_indexes.proofs.ranges.index.Index.next_place.Goals as goal

pub seek-requires-clause-slot : goal.seek-requires-clause-slot
seek-requires-clause-slot c =
    let h = hash_lives c.self.inside.rows.items c.args.hash c.args.row
    (rw (← ap (λ x. x.rows) c.self.view_is) at c.requires) in
    let here = h.1 in
    let many = c.self.invariant.as_many in
    let is = rw (read c.self.inside.chains.links.items c.args.row c.index.result.now
    (omega (arith, here, many)) c.index.ensures) at (c.self.invariant.linked c.args.row here) in
    rw c.deref.ensures.value (λ p. (is.next.of_slot p ∙ ap (λ h. h % length c.self.inside.chains.heads.items) h.0))

pub returns-clause-within : goal.returns-clause-within
returns-clause-within c =
    let h = hash_lives c.self.inside.rows.items c.args.hash c.args.row
    (rw (← ap (λ x. x.rows) c.self.view_is) at c.requires) in
    let here = h.1 in
    let many = c.self.invariant.as_many in
    let is = rw (read c.self.inside.chains.links.items c.args.row c.index.result.now
    (omega (arith, here, many)) c.index.ensures) at (c.self.invariant.linked c.args.row here) in
    let low = is.next.within in
    let w = c.seek.ensures.within in
    omega (arith, w, low)

pub returns-clause-wanted : goal.returns-clause-wanted
returns-clause-wanted c = λ some.
    rw (ap (λ x. x.rows) c.self.view_is) at (sought_wanted c.self.inside.rows.items c.args.hash c.args.range.now
    (c.seek.result - 1)
    (rw c.deref.ensures.value at (c.seek.ensures.sought some)))

pub returns-clause-none_between : goal.returns-clause-none_between
returns-clause-none_between c = λ r l w.
    let h = hash_lives c.self.inside.rows.items c.args.hash c.args.row
    (rw (← ap (λ x. x.rows) c.self.view_is) at c.requires) in
    let here = h.1 in
    let many = c.self.invariant.as_many in
    let is = rw (read c.self.inside.chains.links.items c.args.row c.index.result.now
    (omega (arith, here, many)) c.index.ensures) at (c.self.invariant.linked c.args.row here) in
    let s = wanted_sought c.self.inside.rows.items c.args.hash c.args.range.now r
    (rw (← ap (λ x. x.rows) c.self.view_is) at w) in
    (rw c.deref.ensures.value at c.seek.ensures.none_between) r
    (is.next.none_above r l (ap (λ h. h % length c.self.inside.chains.heads.items) (s.1 ∙ sym h.0), s.0)) s
