use mathlib.Core.Bool.{true≢false}
use Rattle.std.proofs.Common.{◌≡◌, ◌∙◌, false, refl, rules, sym}
use Rattle.chr_run.proofs.Moving.{on_err}
use Rattle.chr_run.proofs.Inputs.{begins, breaks_first, breaks_off, cut_off, ended, ended_part, goes_on, has_kept}
use Rattle.chr_run.proofs.Inputs.{if_err, if_false, if_ok, is_left, settles, stops}
use Rattle.chr_run.proofs.answering.answer.Goals as goal

pub returns-in_err-answer_batch-clause-err : goal.returns-in_err-answer_batch-clause-err
returns-in_err-answer_batch-clause-err g c =
    let L = g.met.M.Machine in
    on_err c.from_residual.result (breaks_first g.M.Machine.Answers g.M.Machine.AnswersAll L.goes_on L.exists
    _ _ _ _ _ _ c.in_err-answer_batch.ensures.err)

pub loop-turn-init : goal.loop-turn-init
loop-turn-init g c = record {
  answered = has_kept _ _ _ _ _ _ _ _ _ _ _ _ (begins g.M.Machine.Answers _ _ _ _ _ _ _ _
      c.in_ok-answer_batch.ensures.ok) c.answer_batch.ensures.kept refl;
  ready = c.in_ok-answer_batch.ensures.ready;
  fits = search rules;
  leaves = refl;
  same = search rules;
}

pub returns-in_err-settle-clause-err : goal.returns-in_err-settle-clause-err
returns-in_err-settle-clause-err g c =
    let L = g.met.M.Machine in
    on_err c.from_residual-in_err-settle.result (cut_off g.M.Machine.Answers g.M.Machine.AnswersAll L.goes_on L.exists
    _ _ _ _ _ _ _ _ _ _ c.loop-turn.invariant.answered c.in_err-settle.ensures.err)

pub returns-then-is_over-clause-ok : goal.returns-then-is_over-clause-ok
returns-then-is_over-clause-ok g c =
    let L = g.met.M.Machine in
    is_left g.M.Machine.Answers g.M.Machine.Finishes L.ends _ _ (λ rest. L.done _ rest
    (c.is_over.ensures.0 c.if-is_over.true).1) _ _ _ _ _ _ _
    (settles g.M.Machine.Answers _ _ _ _ _ _ _ _ _ _ _ c.loop-turn.invariant.answered c.in_ok-settle.ensures.ok)

pub next-requires-in-loop-turn-clause-right : goal.next-requires-in-loop-turn-clause-right
next-requires-in-loop-turn-clause-right g c =
    let s = has_kept _ _ _ _ _ _ _ _ _ _ _ _ (settles g.M.Machine.Answers _ _ _ _ _ _ _ _ _ _ _
    c.loop-turn.invariant.answered c.in_ok-settle.ensures.ok) c.settle.ensures.kept refl in
    let more : c.is_over.result ≡ false = search rules in
    c.requires.prompt _ _ _ _ _ s
    (λ over. true≢false (sym (c.is_over.ensures.1 (c.loop-turn.invariant.leaves ∙ over.0, over.1)) ∙ more))
    c.in_ok-settle.ensures.settled (search rules)

pub returns-in_err-more-clause-err : goal.returns-in_err-more-clause-err
returns-in_err-more-clause-err g c =
    let L = g.met.M.Machine in
    let s = has_kept _ _ _ _ _ _ _ _ _ _ _ _ (settles g.M.Machine.Answers _ _ _ _ _ _ _ _ _ _ _
    c.loop-turn.invariant.answered c.in_ok-settle.ensures.ok) c.settle.ensures.kept c.next-in-loop-turn.ensures.kept in
    on_err c.from_residual-in_err-more.result (stops g.M.Machine.Answers g.M.Machine.AnswersAll L.goes_on L.exists
    _ _ _ _ _ _ _ _ _ s)

pub returns-in_err-answer_batch-2-clause-err : goal.returns-in_err-answer_batch-2-clause-err
returns-in_err-answer_batch-2-clause-err g c =
    let L = g.met.M.Machine in
    let s = has_kept _ _ _ _ _ _ _ _ _ _ _ _ (settles g.M.Machine.Answers _ _ _ _ _ _ _ _ _ _ _
    c.loop-turn.invariant.answered c.in_ok-settle.ensures.ok) c.settle.ensures.kept c.next-in-loop-turn.ensures.kept in
    on_err c.from_residual-in_err-answer_batch-2.result (breaks_off g.M.Machine.Answers g.M.Machine.AnswersAll L.goes_on
    L.exists L.joins _ _ _ _ _ _ _ _ _ _ _ _ s c.in_ok-more.ensures.given.given c.in_err-answer_batch-2.ensures.err)

pub returns-in_err-finish-clause-err : goal.returns-in_err-finish-clause-err
returns-in_err-finish-clause-err g c =
    let L = g.met.M.Machine in
    let s = has_kept _ _ _ _ _ _ _ _ _ _ _ _ (settles g.M.Machine.Answers _ _ _ _ _ _ _ _ _ _ _
    c.loop-turn.invariant.answered c.in_ok-settle.ensures.ok) c.settle.ensures.kept c.next-in-loop-turn.ensures.kept in
    let t = goes_on g.M.Machine.Answers L.joins _ _ _ _ _ _ _ _ _ _ _ _ _ _ s c.in_ok-more.ensures.given.given
    c.in_ok-answer_batch-2.ensures.ok in
    on_err c.from_residual-in_err-finish.result (stops g.M.Machine.Answers g.M.Machine.AnswersAll L.goes_on L.exists
    _ _ _ _ _ _ _ _ _ t)

pub returns-then-not-more-clause-ok : goal.returns-then-not-more-clause-ok
returns-then-not-more-clause-ok g c =
    let L = g.met.M.Machine in
    let more : c.in_ok-more.more ≡ false = search rules in
    let s = has_kept _ _ _ _ _ _ _ _ _ _ _ _ (settles g.M.Machine.Answers _ _ _ _ _ _ _ _ _ _ _
    c.loop-turn.invariant.answered c.in_ok-settle.ensures.ok) c.settle.ensures.kept c.next-in-loop-turn.ensures.kept in
    let t = goes_on g.M.Machine.Answers L.joins _ _ _ _ _ _ _ _ _ _ _ _ _ _ s c.in_ok-more.ensures.given.given
    c.in_ok-answer_batch-2.ensures.ok in
    if_ok c.settle-then-not-more.result (λ w. ended g.M.Machine.Answers g.M.Machine.Finishes L.ends
    _ _ _ _ _ _ _ _ _ _ _ _ _ t (if_false _ more c.in_ok-more.ensures.given.all) c.in_ok-finish.ensures w)
    c.settle-then-not-more.ensures.ok

pub returns-then-not-more-clause-err : goal.returns-then-not-more-clause-err
returns-then-not-more-clause-err g c =
    let L = g.met.M.Machine in
    let more : c.in_ok-more.more ≡ false = search rules in
    let s = has_kept _ _ _ _ _ _ _ _ _ _ _ _ (settles g.M.Machine.Answers _ _ _ _ _ _ _ _ _ _ _
    c.loop-turn.invariant.answered c.in_ok-settle.ensures.ok) c.settle.ensures.kept c.next-in-loop-turn.ensures.kept in
    let t = goes_on g.M.Machine.Answers L.joins _ _ _ _ _ _ _ _ _ _ _ _ _ _ s c.in_ok-more.ensures.given.given
    c.in_ok-answer_batch-2.ensures.ok in
    if_err c.settle-then-not-more.result (λ w. ended_part g.M.Machine.Answers g.M.Machine.Finishes L.ends
    g.M.Machine.AnswersAll L.all _ _ _ _ _ _ _ _ _ _ _ _ t (if_false _ more c.in_ok-more.ensures.given.all)
    c.in_ok-finish.ensures w) c.settle-then-not-more.ensures.err

pub loop-turn-preserved : goal.loop-turn-preserved
loop-turn-preserved g c =
    let L = g.met.M.Machine in
    let s = has_kept _ _ _ _ _ _ _ _ _ _ _ _ (settles g.M.Machine.Answers _ _ _ _ _ _ _ _ _ _ _
    c.loop-turn.invariant.answered c.in_ok-settle.ensures.ok) c.settle.ensures.kept c.next-in-loop-turn.ensures.kept in
    record {
      answered = has_kept _ _ _ _ _ _ _ _ _ _ _ _ (goes_on g.M.Machine.Answers L.joins _ _ _ _ _ _ _ _ _ _ _ _ _ _ s
          c.in_ok-more.ensures.given.given c.in_ok-answer_batch-2.ensures.ok)
          c.answer_batch-in-loop-turn.ensures.kept refl;
      ready = c.in_ok-answer_batch-2.ensures.ready;
      fits = search rules;
      leaves = search rules;
      same = search rules;
    }
