use Rattle.chr_report.proofs.OneOutput.{one_output}
use Rattle.chr_report.proofs.one_text.outputs_are_one.Goals as goal

pub returns : goal.returns
returns c = one_output (record {
  meaning = c.texts_have_one_answer.ensures.meaning;
  apart = c.texts_have_one_answer.ensures.apart;
  fault = c.texts_have_one_answer.ensures.fault;
  confluent = c.accepted_are_confluent.ensures;
  accepted = c.verdict_is_one.ensures.accepted;
  refused = c.verdict_is_one.ensures.refused;
  either = c.verdict_is_one.ensures.either;
  answers = c.answers_are_one.ensures.first;
})
