use Rattle.std.proofs.Common.{◌≡◌, ◌-◌, ◌^◌, length}
use Rattle.chr_device.specs.Devices.{ReadsOn}
use Rattle.chr_run.proofs.reading.read_block.Given as goal

abbrev pub invariant-loop-peer : goal.invariant-loop-peer
invariant-loop-peer g l = record {
  read : ReadsOn (g.P.Peer.unread l.fn.peer) (g.P.Peer.unread l.peer) l.fn.room.items l.room.items;
  kept : g.P.Peer.sent l.peer ≡ g.P.Peer.sent l.fn.peer;
  same : g.P.Peer.is_broken l.peer ≡ g.P.Peer.is_broken l.fn.peer;
}

-- a vector has less than 2^64 bytes, and each turn adds some
abbrev pub decreases-loop-peer : goal.decreases-loop-peer
decreases-loop-peer g l = 2 ^ 64 - length l.room.items
