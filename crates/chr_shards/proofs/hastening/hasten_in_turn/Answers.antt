use Rattle.std.proofs.Common.{rules, ◌<◌, length, subst}
use Rattle.std.proofs.lemmas.List.{get_or_default, length-set}
use Rattle.chr_base.specs.FinBag as bag
use Rattle.chr_base.specs.Rewriting.{Reaches}
use Rattle.chr_base.specs.Rules.{Step}
use Rattle.chr_weights.specs.WeighedPrograms.{rules_in}
use Rattle.chr_shards.proofs.Rests.{reach_on}
use Rattle.chr_shards.proofs.hastening.hasten_in_turn.Goals as goal

pub loop-place-preserved : goal.loop-place-preserved
loop-place-preserved c =
    let steps = rules_in c.args.weighed.now in
    let ss = c.loop-place.pools in
    let k = c.loop-place.place in
    let t = c.hasten_one.new.pool in
    let within : k < length ss = search rules in
    reach_on steps c.args.pools.now ss k t c.loop-place.invariant within
    (subst (λ u. Reaches (Step steps) u t) (get_or_default ss k _ bag.empty within) c.hasten_one.ensures)
    (length-set ss k t)
