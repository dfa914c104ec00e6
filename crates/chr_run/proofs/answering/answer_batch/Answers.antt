use Rattle.std.proofs.Common.{rules, refl}
use Rattle.std.specs.Prelude.{string_bytes}
use Rattle.chr_run.proofs.Batches.{begun, goes_on, breaks_off, of_batch}
use Rattle.chr_run.proofs.Moving.{on_err}
use Rattle.chr_run.proofs.answering.answer_batch.Goals as goal

pub loop-at-init : goal.loop-at-init
loop-at-init g c = record {
  answered = begun g.M.Machine.Answers g.met.M.Machine.starts c.args.machine.now _ (g.P.Peer.sent c.args.peer.now)
      (string_bytes c.args.held.now);
  bytes = refl;
  ready = c.requires.ready;
  fits = c.requires.fits;
  kept = refl;
  same = refl;
}

pub loop-at-preserved : goal.loop-at-preserved
loop-at-preserved g c = record {
  answered = goes_on g.M.Machine.Answers g.met.M.Machine.joins _ _ _ _ _ _ _ _ _ _ _ _ _ _
      c.loop-at.invariant.answered
      (of_batch g.M.Machine.Answers _ _ _ _ _ _ _ _ c.loop-at.invariant.bytes c.in_ok-at.ensures.ok)
      c.in_ok-offer.ensures.ok;
  bytes = search rules;
  ready = c.in_ok-at.ensures.ready;
  fits = c.in_ok-at.ensures.fits;
  kept = search rules;
  same = search rules;
}

pub returns-in_err-offer-clause-err : goal.returns-in_err-offer-clause-err
returns-in_err-offer-clause-err g c = on_err c.from_residual-in_err-offer.result
    (breaks_off g.M.Machine.Answers g.met.M.Machine.joins _ _ _ _ _ _ _ _ _ _ _ _ _ c.loop-at.invariant.answered
    (of_batch g.M.Machine.Answers _ _ _ _ _ _ _ _ c.loop-at.invariant.bytes c.in_ok-at.ensures.ok)
    c.in_err-offer.ensures.err)
