use Rattle.std.proofs.Common.{◌≡◌, ◌≢◌, ◌+◌, ◌<◌, length, set, arith, below_more}
use Rattle.std.proofs.lemmas.List.{get_or-set_same, get_or-set_other, length-set}
use Rattle.chr_indexes.proofs.ranges.chain.join.Goals as goal

pub returns-clause-linked : goal.returns-clause-linked
returns-clause-linked c =
    let heads = c.args.chains.now.heads.items in
    let as_many = c.requires.as_many in
    let within = c.requires.row in
    let here : c.args.row < length c.args.chains.now.links.items = omega (arith, as_many, within) in
    let size : length (set heads c.slot_for-slot.result (c.args.row + 1)) ≡ length heads =
    length-set heads c.slot_for-slot.result (c.args.row + 1) in
    below_more _ _
    (λ r less. (let other : r ≢ c.args.row = omega (arith, less) in
    rw (size, get_or-set_other) (c.requires.linked r less)))
    (rw (size, get_or-set_same) c.link_for-link.ensures)
