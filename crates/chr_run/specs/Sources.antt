-- What sources have read and not given.
use Rattle.std.specs.Prelude.{ℕ, List}
use Rattle.chr_run.specs.declared.blocks.Blocks.{Blocks}

-- what was read after the end of a block
abbrev pub begun_of : {C : Type 0} → Blocks C → List ℕ
begun_of s = s.begun.items
