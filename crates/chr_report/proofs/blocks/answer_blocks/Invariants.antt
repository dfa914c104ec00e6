use Rattle.std.specs.Prelude.{◌≡◌, string_bytes}
use Rattle.chr_device.specs.Devices.{inner_of, has_failed}
use Rattle.chr_report.specs.working.Blocks.{IsInBlocks}
use Rattle.chr_answers.specs.Services.{held, served}
use Rattle.chr_report.proofs.blocks.answer_blocks.Given as goal

abbrev pub invariant-loop-block : goal.invariant-loop-block
invariant-loop-block g l = record {
  blocks : IsInBlocks (served l.fn.service) l.fn.first (g.D.Read.remaining (inner_of l.fn.reader))
      (g.D.Read.remaining (inner_of l.reader)) (held l.fn.service) (string_bytes l.fn.text) l.blocks;
  accepted : l.asking.accepted ≡ l.fn.asking.accepted;
  whole : has_failed l.reader ≡ has_failed l.fn.reader;
}
