use Rattle.std.proofs.Common.{◌≡◌, ◌<◌, ◌^◌, length, arith, ap, ◌∙◌}
use Rattle.std.proofs.lemmas.List.{with_items_is}
use Rattle.chr_portions.specs.working.Chains.{AreNext, AreHeads, AreAlike}
use Rattle.chr_portions.proofs.Entries.{index_relink, rows_alike}
use Rattle.chr_portions.proofs.index.Index.grow.Goals as goal

pub invariant_of-self-2 : goal.invariant_of-self-2
invariant_of-self-2 c =
    let records = c.self.inside.records.items in
    let after = c.relink.new.records in
    let size = c.relink.ensures.size in
    let whole : c.deref_mut.result.now ≡ records = c.deref_mut.ensures.value in
    let len = c.deref_mut.ensures.len in
    let alike : AreAlike records after = rw whole at c.relink.ensures.alike in
    let back = with_items_is c.self.inside.records after (omega (arith, size, len, c.self.inside.records.ok.0)) in
    let heads = c.relink.new.heads in
    let slots = c.relink.ensures.slots in
    let wide = c.deref_mut-2.ensures.len in
    let filled = c.fill.ensures.len in
    let doubled = c.in_ok-resize.ensures.len in
    let twice = c.len-slots.ensures in
    let few = c.if-slots-wanted.false in
    let wanted = c.min-wanted.ensures in
    let least = c.self.invariant.some in
    let some : 0 < length heads =
    omega (arith, slots, wide, filled, doubled, twice, least, c.self.inside.heads.ok.0) in
    let most : length heads < 2 ^ 32 = omega (arith, slots, wide, filled, doubled, few, wanted) in
    let next : AreNext (length heads) after (length records) = rw slots (rw whole at c.relink.ensures.next) in
    let newest : AreHeads after heads (length records) = rw whole at c.relink.ensures.heads in
    rw (back, with_items_is c.fill.new.self heads (omega (arith, slots, wide, c.fill.new.self.ok.0)))
    (index_relink records after c.self.inside.places.items c.self.inside.heads.items c.self.inside.skips.items heads
    alike (size ∙ ap length whole) some most next newest c.self.invariant)

pub returns-clause-rows : goal.returns-clause-rows
returns-clause-rows c =
    let records = c.self.inside.records.items in
    let after = c.relink.new.records in
    let size = c.relink.ensures.size in
    let whole : c.deref_mut.result.now ≡ records = c.deref_mut.ensures.value in
    let len = c.deref_mut.ensures.len in
    let alike : AreAlike records after = rw whole at c.relink.ensures.alike in
    let back = with_items_is c.self.inside.records after (omega (arith, size, len, c.self.inside.records.ok.0)) in
    rw back (rows_alike records after c.self.inside.places.items alike ∙ ap (λ x. x.rows) c.self.view_is)
