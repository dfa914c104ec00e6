use Rattle.std.proofs.Common.{rules, arith, length, ◌+◌, ◌*◌, ◌<◌, subst, sym, ◌++◌}
use Rattle.chr_weights.specs.WeighedPrograms.{rules_in}
use Rattle.chr_shards.specs.working.Placed.{ReachEach}
use Rattle.chr_shards.proofs.Rests.{reach_both}
use Rattle.chr_shards.proofs.hastening.+threads.Goals as goal

pub hasten_both-here-hasten_by_size-requires : goal.hasten_both-here-hasten_by_size-requires
hasten_both-here-hasten_by_size-requires g t c κs within = (search rules, (within, (c.requires.0, c.requires.1)))

pub hasten_both-join_mut-requires-after_bounds : goal.hasten_both-join_mut-requires-after_bounds
hasten_both-join_mut-requires-after_bounds g t c κs within =
    (tt, (search rules, (λ a m. m, ((search rules, c.requires), search rules))))

pub hasten_by_size-hasten_both-requires : goal.hasten_by_size-hasten_both-requires
hasten_by_size-hasten_both-requires g t c κs within =
    let cut = c.split_at_mut-first in
    let longer = c.if-pools-size.false in
    let some = c.requires in
    let back = cut.ensures.back_len in
    let less : 3 * length cut.result.1.now + 2 < 3 * length c.args.pools.now = omega (arith, longer, some, back) in
    (search rules, (within, (search rules, c.requires)))

pub hasten_by_size-returns : goal.hasten_by_size-returns
hasten_by_size-returns g t c =
    let cut = c.split_at_mut-first in
    let steps = rules_in c.args.weighed.now in
    subst (λ ss. ReachEach steps ss (c.hasten_both.new.first ++ c.hasten_both.new.others)) (sym cut.ensures.value)
    (reach_both steps cut.result.0.now c.hasten_both.new.first cut.result.1.now c.hasten_both.new.others
    c.hasten_both.ensures.first c.hasten_both.ensures.others)
