use Rattle.std.proofs.Common.{◌≡◌, subst, sym}
use Rattle.chr_weights.specs.WeighedPrograms.{rules_in}
use Rattle.chr_shards.specs.working.Placed.{ReachEach}
use Rattle.chr_shards.proofs.Sums.{written_back}
use Rattle.chr_shards.proofs.hastening.hasten_each.Goals as goal

pub returns : goal.returns
returns g c =
    let rules = rules_in c.args.weighed.now in
    let ss = c.args.pools.now.items in
    let ts = c.hasten_by_size.new.pools in
    let same : c.as_mut_slice.result.now ≡ ss = c.as_mut_slice.ensures.value in
    let reached : ReachEach rules ss ts = subst (λ xs. ReachEach rules xs ts) same c.hasten_by_size.ensures in
    subst (ReachEach rules ss) (sym (written_back ss ts c.args.pools.now.len c.args.pools.now.ok.0 reached.0)) reached
