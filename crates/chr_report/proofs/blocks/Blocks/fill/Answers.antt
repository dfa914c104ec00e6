use Rattle.std.proofs.Common.{◌∙◌}
use Rattle.chr_device.specs.Devices.{inner_of}
use Rattle.chr_report.proofs.InBlocks.{blocks_both}
use Rattle.chr_report.proofs.blocks.Blocks.fill.Goals as goal

pub loop-block-preserved : goal.loop-block-preserved
loop-block-preserved g c =
    let i = c.loop-block.invariant in
    let e = c.in_ok-read_block.ensures in
    record {
      read = blocks_both (g.D.Read.remaining (inner_of c.args.reader.now))
          (g.D.Read.remaining (inner_of c.loop-block.reader)) (g.D.Read.remaining (inner_of c.read_block.new.reader))
          c.args.self.now c.loop-block.self c.read_block.new.self i.read e.read;
      accepted = e.accepted ∙ i.accepted;
      whole = e.whole ∙ i.whole;
    }
