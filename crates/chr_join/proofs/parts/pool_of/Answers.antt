use Rattle.chr_rewrite.proofs.PoolLemmas.{pool_of_atoms}
use Rattle.chr_join.proofs.parts.pool_of.Goals as goal

pub returns : goal.returns
returns c = pool_of_atoms _ _ c.args.part.now _ c.in_ok-pool.ensures c.atoms.ensures c.in_ok-insert.ensures.ok
