-- What a pool finds and does.
use Rattle.std.specs.Prelude.{◌≡◌, ℕ, ◌+◌, ◌≤◌, false}
use Rattle.std.specs.Io.Iter.{u64_saturate}
use Rattle.chr_base.specs.declared.program.Program.{Program}
use Rattle.chr_base.specs.Stores.{Store}
use Rattle.chr_base.specs.Rules.{Step}
use Rattle.chr_base.specs.ProgramTests.{some_paired}
use Rattle.chr_base.specs.Programs.{declarations, rules_of}
use Rattle.chr_base.specs.Rewriting.{Runs}
use Rattle.chr_weights.specs.Weights.{store_rank, store_weight}

-- Some steps of the program lead from s to t. Their number is n, or more where n is the greatest u64. Each lowered the
-- rank, and where no weight has a second number, the first number.
pub record TookSteps (p : Program) (n : ℕ) (s t : Store) : Type 0 where
  pub steps : ℕ
  pub counted : n ≡ u64_saturate steps
  pub run : Runs (Step (rules_of p)) steps s t
  pub rank : steps + store_rank p t ≤ store_rank p s
  pub weight : some_paired (declarations p) ≡ false
      → steps + (store_weight p t).first ≤ (store_weight p s).first
