use mathlib.Core.Bool.{true≢false}
use Rattle.std.proofs.Common.{length}
use Rattle.chr_answers.specs.declared.answering.Answering.{Answering}
use Rattle.chr_answers.proofs.Continuing.{ahead_of, fewer_left, goes_further, nothing_answered, where_not}
use Rattle.chr_answers.proofs.answering.answer_lines.Goals as goal

pub loop-answered-init : goal.loop-answered-init
loop-answered-init g c =
    let text = c.args.text.now in
    let start : Answering = record { service = c.args.at.service; out = c.args.at.out; left = length text } in
    record {
      answered = nothing_answered text start c.requires.ready;
      ahead = c.requires.ahead;
      last = λ e. absurd (true≢false e);
    }

pub loop-answered-preserved : goal.loop-answered-preserved
loop-answered-preserved g c =
    let text = c.args.text.now in
    let start : Answering = record { service = c.args.at.service; out = c.args.at.out; left = length text } in
    let at = c.loop-answered.at in
    let next = c.answer_next.new.at in
    let h = c.in_ok-answered in
    let before = c.loop-answered.invariant.answered in
    record {
      answered = goes_further text start at next before h.ensures.goes;
      ahead = ahead_of text c.args.at.service at.service c.answer_next.new.ahead before.program h.ensures.ahead;
      last = where_not h.answered h.ensures.none;
    }

pub loop-answered-smaller : goal.loop-answered-smaller
loop-answered-smaller g c =
    fewer_left c.loop-answered.at c.answer_next.new.at c.in_ok-answered.answered c.loop-answered.answered
    c.in_ok-answered.ensures.shorter c.in_ok-answered.ensures.left c.loop-answered-test.true

pub returns : goal.returns
returns g c = (c.loop-answered.invariant.answered, c.loop-answered.invariant.last c.loop-answered-test.false)
