use Rattle.std.specs.Prelude.{◌≡◌}
use Rattle.chr_device.specs.Devices.{inner_of, has_failed}
use Rattle.chr_report.specs.working.Blocks.{ReadsBlocks}
use Rattle.chr_report.proofs.blocks.Blocks.fill.Given as goal

abbrev pub invariant-loop-block : goal.invariant-loop-block
invariant-loop-block g l = record {
  read : ReadsBlocks (g.D.Read.remaining (inner_of l.fn.reader)) (g.D.Read.remaining (inner_of l.reader)) l.fn.self
      l.self;
  accepted : l.asking.accepted ≡ l.fn.asking.accepted;
  whole : has_failed l.reader ≡ has_failed l.fn.reader;
}
