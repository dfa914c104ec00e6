-- Tells that are read together, and rested.
use Rattle.std.specs.Prelude.{◌≡◌, ℕ, List}
use Rattle.chr_base.specs.declared.program.Program.{Program}
use Rattle.chr_weights.specs.WeighedPrograms.{program_of}
use Rattle.chr_answers.specs.Gathered.{ReachTogether, TellFirst}
use Rattle.chr_report.specs.declared.gathering.Gathering.{Gathering}

-- the lines that were read tell the operations, and the pool has what their atoms reach together with those that were
-- carried
pub record IsGathered (p : Program) (text : List ℕ) (g : Gathering) : Type 0 where
  pub lines : TellFirst p text g.replica g.left g.ops.items g.more
  pub own : program_of g.pool.weighed ≡ p
  pub reached : ReachTogether p g.carried.part g.ops.items g.pool.store
