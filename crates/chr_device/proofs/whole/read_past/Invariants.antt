use Rattle.std.proofs.Common.{◌≡◌}
use Rattle.chr_device.specs.Devices.{has_failed}
use Rattle.chr_device.proofs.whole.read_past.Given as goal

abbrev pub invariant-loop-turn : goal.invariant-loop-turn
invariant-loop-turn g l = record {
  whole : has_failed l.reader ≡ has_failed l.fn.reader;
}
