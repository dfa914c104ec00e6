-- Counting the steps that a pool takes.
use Rattle.std.specs.Prelude.{◌≡◌, ℕ, zero, suc, ◌+◌, ◌-◌, ◌^◌, ◌<◌, min, List}
use Rattle.std.proofs.Common.{refl, sym, subst, arith}
use Rattle.chr_base.specs.declared.rule.Rule.{Rule}
use Rattle.chr_base.specs.declared.program.Program.{Program}
use Rattle.chr_base.specs.Stores.{Store, weight_of}
use Rattle.chr_base.specs.Rules.{Step}
use Rattle.chr_base.specs.Programs.{rules_of}
use Rattle.chr_base.proofs.Steps.{step_lowers}
use Rattle.std.specs.Io.Iter.{u64_saturate}
use Rattle.chr_base.specs.Rewriting.{IsAtRest, Lowers, Runs}
use Rattle.chr_base.proofs.Rewriting.{Runs-append, Runs-lowers}
use Rattle.chr_weights.specs.Weights.{weight_in, store_rank, ProgramLowers}
use Rattle.chr_weights.proofs.Ranks.{rank_in, lowers_rank, lowers_first, store_ranks}
use Rattle.chr_rewrite.specs.Pools.{TookSteps}

-- each step of the program lowers the rank
steps_lower : (p : Program) → ProgramLowers p → Lowers (Step (rules_of p)) (store_rank p)
steps_lower p lowers s t st =
    let a = step_lowers (rank_in p) (rules_of p) (lowers_rank p lowers) s t st in
    let b = store_ranks p s in
    let c = store_ranks p t in
    omega (arith, a, b, c)

pub one_lowers : (p : Program) (rules : List Rule) (s t : Store) → ProgramLowers p → rules ≡ rules_of p → Step rules s t
    → store_rank p t < store_rank p s
one_lowers p rules s t lowers same st = steps_lower p lowers s t (subst (λ rs. Step rs s t) same st)

pub none_yet : (p : Program) (s : Store) → TookSteps p 0 s s
none_yet p s = record { steps = 0; counted = refl; run = refl; rank = omega arith; weight = λ _. omega arith }

-- at rest no step was taken
pub none_taken : (p : Program) (n : ℕ) (s t : Store) → TookSteps p n s t → IsAtRest (Step (rules_of p)) s → (n ≡ 0)
    × (s ≡ t)
none_taken p n s t h rest = by h.steps h.counted h.run
  where
    by : (m : ℕ) → n ≡ u64_saturate m → Runs (Step (rules_of p)) m s t → (n ≡ 0) × (s ≡ t)
    by zero e r = (e, r)
    by (suc m) e r = absurd (rest r.0 r.1)

-- steps and then some more
pub many_more : (p : Program) (rules : List Rule) (n m k : ℕ) (s t u : Store) → ProgramLowers p → rules ≡ rules_of p
    → TookSteps p n s t → Runs (Step rules) m t u
    → k ≡ min (n + m) (2 ^ 64 - 1) → TookSteps p k s u
many_more p rules n m k s t u lowers same h more e =
    let is = h.counted in
    let more' = subst (λ rs. Runs (Step rs) m t u) same more in
    let r = Runs-append (Step (rules_of p)) h.steps m s t u h.run more' in
    record {
      steps = h.steps + m;
      counted = omega (arith, is, e);
      run = r;
      rank = Runs-lowers (Step (rules_of p)) (store_rank p) (steps_lower p lowers) (h.steps + m) s u r;
      weight = λ none. Runs-lowers (Step (rules_of p)) (weight_of (λ a. (weight_in p a).first))
          (step_lowers (λ a. (weight_in p a).first) (rules_of p) (lowers_first p none lowers)) (h.steps + m) s u r;
    }

-- some steps lower the rank
pub some_lower : (p : Program) (rules : List Rule) (m : ℕ) (s t : Store) → ProgramLowers p → rules ≡ rules_of p → 0 < m
    → Runs (Step rules) m s t → store_rank p t < store_rank p s
some_lower p rules m s t lowers same some h =
    let low = Runs-lowers (Step (rules_of p)) (store_rank p) (steps_lower p lowers) m s t
    (subst (λ rs. Runs (Step rs) m s t) same h) in
    omega (arith, low, some)

-- a store at rest under rules that are the program's is at rest under the program's
pub rests_so : (p : Program) (rules : List Rule) (t : Store) → rules ≡ rules_of p → IsAtRest (Step rules) t
    → IsAtRest (Step (rules_of p)) t
rests_so p rules t same rest = subst (λ rs. IsAtRest (Step rs) t) same rest

-- where the rank fits 64 bits, the steps are counted exactly
pub exact_count : (p : Program) (n : ℕ) (s t : Store) → TookSteps p n s t → store_rank p s < 2 ^ 64
    → Runs (Step (rules_of p)) n s t
exact_count p n s t h fits =
    let is = h.counted in
    let few = h.rank in
    let same : n ≡ h.steps = omega (arith, is, few, fits) in
    subst (λ m. Runs (Step (rules_of p)) m s t) (sym same) h.run
