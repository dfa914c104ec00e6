use Rattle.std.proofs.Common.{rules}
use Rattle.std.specs.Prelude.{IsTrue}
use Rattle.chr_rewrite.proofs.PoolLemmas.{pool_of_atoms}
use Rattle.chr_diagnosis.proofs.smaller.replayed.Goals as goal

pub returns : goal.returns
returns c =
    let start = pool_of_atoms _ _ c.args.derivation.now.start _ c.new-pool.ensures c.atoms.ensures
    c.in_ok-insert.ensures.ok in
    let resting : IsTrue c.at_rest.result = search rules in (
      rw (c.in_ok-bag.ensures, ← start, ← c.deref.ensures.value) c.in-Ok.ensures.ok,
      rw c.in_ok-bag.ensures (c.at_rest.ensures.0 resting),
    )
