use Rattle.chr_answers.specs.Services.{served}
use Rattle.chr_answers.proofs.Continuing.{first_answered, known_answered}
use Rattle.chr_answers.proofs.answering.answer_first.Goals as goal

pub returns-clause-answered : goal.returns-clause-answered
returns-clause-answered g c =
    first_answered c.args.text.now c.args.at.now (record {
      service = c.answer_line.new.service;
      out = c.answer_line.new.out;
      left = c.in-Some-first_of_last.more;
    })
    c.in-Some-first_of_last.line.now c.without_return-line.result.now
    c.in-Some-first_of_last.ensures.some c.in-Some-first_of_last.ensures.unended c.without_return-line.ensures
    c.in_ok-answer_line.ensures.ready c.answer_line.ensures.program c.in_ok-answer_line.ensures.answer

pub returns-in-Some-clause-answered : goal.returns-in-Some-clause-answered
returns-in-Some-clause-answered g c =
    let p = served c.args.at.now.service in
    let known = c.in-Some.ensures.first p c.args.text.now c.requires.ahead in
    known_answered c.args.text.now c.args.at.now (record {
      service = c.answer_request.new.service;
      out = c.answer_request.new.out;
      left = c.in-Some.more;
    })
    c.in-Some.request known c.in_ok-answer_request.ensures.ready
    c.answer_request.ensures.program c.in_ok-answer_request.ensures.answer

pub returns-in-Some-clause-shorter : goal.returns-in-Some-clause-shorter
returns-in-Some-clause-shorter g c =
    (c.in-Some.ensures.first (served c.args.at.now.service) c.args.text.now c.requires.ahead).shorter

pub returns-in_err-answer_request-clause-ahead : goal.returns-in_err-answer_request-clause-ahead
returns-in_err-answer_request-clause-ahead g c =
    c.request.ensures.ahead (served c.args.at.now.service) c.args.text.now c.requires.ahead

pub returns-in-Some-clause-ahead : goal.returns-in-Some-clause-ahead
returns-in-Some-clause-ahead g c =
    c.request.ensures.ahead (served c.args.at.now.service) c.args.text.now c.requires.ahead

pub returns-in_err-answer_line-clause-ahead : goal.returns-in_err-answer_line-clause-ahead
returns-in_err-answer_line-clause-ahead g c =
    c.request.ensures.ahead (served c.args.at.now.service) c.args.text.now c.requires.ahead

pub returns-in_default-first_of_last-clause-ahead : goal.returns-in_default-first_of_last-clause-ahead
returns-in_default-first_of_last-clause-ahead g c =
    c.request.ensures.ahead (served c.args.at.now.service) c.args.text.now c.requires.ahead

pub returns-clause-ahead : goal.returns-clause-ahead
returns-clause-ahead g c =
    c.request.ensures.ahead (served c.args.at.now.service) c.args.text.now c.requires.ahead

pub answer_request-requires-clause-fits : goal.answer_request-requires-clause-fits
answer_request-requires-clause-fits g c κs within =
    (c.in-Some.ensures.first (served c.args.at.now.service) c.args.text.now c.requires.ahead).asks.fits
