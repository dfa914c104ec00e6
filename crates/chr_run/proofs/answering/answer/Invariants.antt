use Rattle.std.specs.Prelude.{◌≡◌, string_bytes}
use Rattle.std.specs.Io.KnownBytes.{prepend_known}
use Rattle.chr_run.specs.Answered.{HasAnswered}
use Rattle.chr_run.proofs.answering.answer.Given as goal

abbrev pub invariant-loop-turn : goal.invariant-loop-turn
invariant-loop-turn g l = record {
  answered : HasAnswered (g.M.Machine.Answers l.fn.machine) l.machine
      (g.B.Batch.bytes l.fn.batch) (prepend_known (g.S.Source.begun l.fn.source) (g.P.Peer.unread l.fn.peer))
      (prepend_known (g.S.Source.begun l.source) (g.P.Peer.unread l.peer)) (g.P.Peer.sent l.fn.peer)
      (g.P.Peer.sent l.peer) (string_bytes l.fn.held) (string_bytes l.held);
  ready : g.M.Machine.IsReady l.machine;
  fits : g.S.Source.fits l.source (g.P.Peer.unread l.peer);
  leaves : g.S.Source.leaves l.source ≡ g.S.Source.leaves l.fn.source;
  same : g.P.Peer.is_broken l.peer ≡ g.P.Peer.is_broken l.fn.peer;
}
