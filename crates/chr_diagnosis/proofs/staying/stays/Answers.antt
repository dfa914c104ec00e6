use Rattle.std.proofs.Common.{subst}
use Rattle.std.specs.Prelude.{IsTrue, ◌↔◌}
use Rattle.chr_base.specs.Rules.{Step}
use Rattle.chr_base.specs.Rewriting.{IsAtRest}
use Rattle.chr_weights.specs.WeighedPrograms.{rules_in}
use Rattle.chr_rewrite.proofs.PoolLemmas.{pool_of_atoms}
use Rattle.chr_diagnosis.proofs.staying.stays.Goals as goal

pub returns : goal.returns
returns c =
    let start = pool_of_atoms _ _ c.args.store.now _ c.new-pool.ensures c.atoms.ensures c.in_ok-insert.ensures.ok in
    subst (λ s. IsTrue c.at_rest.result ↔ IsAtRest (Step (rules_in c.args.weighed.now)) s) start c.at_rest.ensures
