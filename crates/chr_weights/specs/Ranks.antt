-- How great ranks are.
use Rattle.std.specs.Prelude.{ℕ, ◌*◌, ◌≤◌}
use Rattle.chr_base.specs.declared.program.Program.{Program}
use Rattle.chr_base.specs.Stores.{Store, size}
use Rattle.chr_weights.specs.Weights.{store_rank}

-- at most 8,000,002,000,000 for each atom, where 8,000,002 is MAX_BODY * MAX_WEIGHT + 2 and 1,000,000 is MAX_WEIGHT
abbrev pub RanksAreBounded : Type 0
RanksAreBounded = (p : Program) (s : Store) → store_rank p s ≤ 8000002000000 * size s
