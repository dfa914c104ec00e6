-- The end of a part that was rested.
use Rattle.std.specs.Prelude.{◌≡◌, ℕ}
use Rattle.chr_base.specs.declared.program.Program.{Program}
use Rattle.chr_base.specs.Stores.{Store}
use Rattle.chr_base.specs.Rules.{Step}
use Rattle.chr_base.specs.Programs.{rules_of}
use Rattle.chr_base.specs.Rewriting.{IsAtRest, IsNormalForm}
use Rattle.chr_rewrite.specs.Pools.{TookSteps}
use Rattle.chr_rewrite.proofs.PoolLemmas.{took_reaches}

-- where the pool of a part was rested, its atoms are a normal form of the part
pub rested_normal : (p : Program) (n : ℕ) (part pool end b : Store) → pool ≡ part → TookSteps p n pool end
    → IsAtRest (Step (rules_of p)) end → b ≡ end → IsNormalForm (Step (rules_of p)) part b
rested_normal p n part pool end b is took rests same = rw (same, ← is) (took_reaches p n pool end took, rests)
