-- How great the rank of a sound replica's pool is.
use Rattle.std.specs.Prelude.{◌≡◌, ◌+◌, ◌^◌, ◌<◌, ◌≤◌}
use Rattle.std.proofs.Common.{refl, sym, ◌∙◌, arith}
use Rattle.chr_base.specs.declared.program.Program.{Program}
use Rattle.chr_base.specs.FinBag.{◌⊕◌}
use Rattle.chr_base.specs.Stores.{Store}
use Rattle.chr_base.specs.Rules.{Step}
use Rattle.chr_base.specs.Programs.{rules_of}
use Rattle.chr_base.proofs.Stores.{weight_plus}
use Rattle.chr_base.proofs.Rewriting.{Runs-lowers}
use Rattle.chr_ops.specs.declared.limits.TheConstants.{MAX_TOLD}
use Rattle.chr_ops.specs.Operations.{told_store, told_atoms}
use Rattle.chr_weights.specs.Weights.{ProgramLowers, store_rank}
use Rattle.chr_weights.proofs.Ranks.{rank_in, store_ranks, ranks_bounded}
use Rattle.chr_rewrite.proofs.StepCounts.{one_lowers}
use Rattle.chr_replica.specs.Leases.{leased_store}
use Rattle.chr_replica.specs.Replicas.{Replica, IsSound}

rank_plus : (p : Program) (s t : Store) → store_rank p (s ⊕ t) ≡ store_rank p s + store_rank p t
rank_plus p s t =
    sym (store_ranks p (s ⊕ t)) ∙ weight_plus (rank_in p) s t ∙ (λ i. store_ranks p s i + store_ranks p t i)

-- the rank of a sound replica's pool fits 64 bits
pub rank_fits : (p : Program) (s : Replica) → ProgramLowers p → IsSound p s → told_atoms s.operations ≤ MAX_TOLD
    → store_rank p s.pool < 2 ^ 64
rank_fits p s lowers sound few =
    let run = Runs-lowers (Step (rules_of p)) (store_rank p) (λ t u h. one_lowers p (rules_of p) t u lowers refl h)
    sound.reached.0 (told_store s.operations) (s.pool ⊕ leased_store s.out) sound.reached.1 in
    let whole = rank_plus p s.pool (leased_store s.out) in
    let bound = ranks_bounded p (told_store s.operations) in
    omega (arith, run, whole, bound, few)
