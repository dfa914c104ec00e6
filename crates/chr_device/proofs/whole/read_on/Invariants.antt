use Rattle.std.proofs.Common.{◌≡◌, ◌-◌, ◌^◌, length}
use Rattle.chr_device.specs.Devices.{inner_of, has_failed, ReadsOn}
use Rattle.chr_device.proofs.whole.read_on.Given as goal

abbrev pub invariant-loop-chunk : goal.invariant-loop-chunk
invariant-loop-chunk g l = record {
  read : ReadsOn (g.R.Read.remaining (inner_of l.fn.reader)) (g.R.Read.remaining (inner_of l.reader)) l.fn.held.items
      l.held.items;
  whole : has_failed l.reader ≡ has_failed l.fn.reader;
}

-- a vector has less than 2^64 bytes, and each turn adds some
abbrev pub decreases-loop-chunk : goal.decreases-loop-chunk
decreases-loop-chunk g l = 2 ^ 64 - length l.held.items
