use Rattle.std.proofs.Common.{◌≡◌, length, vec_len, arith, ◌∙◌}
use Rattle.chr_indexes.proofs.EntriesBelow.{index_push}
use Rattle.chr_indexes.proofs.ranges.index.Index.push.Goals as goal

pub join-requires-clause-linked : goal.join-requires-clause-linked
join-requires-clause-linked c =
    let size : vec_len c.self.inside.rows ≡ length c.self.inside.rows.items = omega (arith, c.self.inside.rows.ok.0) in
    rw (c.deref.ensures.value, c.push_reserved.ensures.items, c.push_reserved-2.ensures.items)
    (index_push c.self.inside.rows.items c.self.inside.chains.links.items c.self.inside.chains.heads.items
    c.len-row.result _ _ c.self.invariant (c.len-row.ensures ∙ size)).0

pub join-requires-clause-heads : goal.join-requires-clause-heads
join-requires-clause-heads c =
    let size : vec_len c.self.inside.rows ≡ length c.self.inside.rows.items = omega (arith, c.self.inside.rows.ok.0) in
    rw (c.deref.ensures.value, c.push_reserved.ensures.items)
    (index_push c.self.inside.rows.items c.self.inside.chains.links.items c.self.inside.chains.heads.items
    c.len-row.result _ c.default.result c.self.invariant (c.len-row.ensures ∙ size)).1
