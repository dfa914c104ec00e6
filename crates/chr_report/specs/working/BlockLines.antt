-- The lines of a block.
use Rattle.std.specs.Prelude.{ℕ, List, take}
use Rattle.chr_report.specs.declared.block.Block.{Block}

abbrev pub lines_of : Block → List ℕ
lines_of b = take b.whole b.bytes.items
