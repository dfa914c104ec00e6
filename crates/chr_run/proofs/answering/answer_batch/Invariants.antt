use Rattle.std.proofs.Common.{◌≡◌, ◌-◌, length, drop}
use Rattle.std.specs.Prelude.{string_bytes}
use Rattle.chr_run.specs.working.Batches.{AnswersFront}
use Rattle.chr_run.proofs.answering.answer_batch.Given as goal

abbrev pub invariant-loop-at : goal.invariant-loop-at
invariant-loop-at g l = record {
  answered : AnswersFront (g.M.Machine.Answers l.fn.machine) l.machine (g.B.Batch.bytes l.fn.batch)
      (drop l.at (g.B.Batch.bytes l.fn.batch)) (g.P.Peer.sent l.fn.peer) (g.P.Peer.sent l.peer)
      (string_bytes l.fn.held) (string_bytes l.held);
  bytes : g.B.Batch.bytes l.batch ≡ g.B.Batch.bytes l.fn.batch;
  ready : g.M.Machine.IsReady l.machine;
  fits : g.M.Machine.fits l.machine l.batch;
  kept : g.P.Peer.unread l.peer ≡ g.P.Peer.unread l.fn.peer;
  same : g.P.Peer.is_broken l.peer ≡ g.P.Peer.is_broken l.fn.peer;
}

abbrev pub decreases-loop-at : goal.decreases-loop-at
decreases-loop-at g l = length (g.B.Batch.bytes l.fn.batch) - l.at
