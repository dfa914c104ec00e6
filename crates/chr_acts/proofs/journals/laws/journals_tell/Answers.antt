use Rattle.chr_acts.proofs.Telling.{journals_hold, answers_are_shown, answers_agree}
use Rattle.chr_acts.proofs.journals.laws.journals_tell.Goals as goal

pub returns-clause-hold : goal.returns-clause-hold
returns-clause-hold c = journals_hold

pub returns-clause-answer : goal.returns-clause-answer
returns-clause-answer c =
    let k = c.events_keep_replicas_sound.ensures in
    answers_are_shown (record {
      tell = k.tell;
      merge = k.merge;
      step = k.step;
      take = k.take;
      take_parts = k.take_parts;
      put = k.put;
      recall = k.recall;
      settle = k.settle;
    }) k.first c.one_answer.ensures

pub returns-clause-agree : goal.returns-clause-agree
returns-clause-agree c =
    let k = c.events_keep_replicas_sound.ensures in
    answers_agree (record {
      tell = k.tell;
      merge = k.merge;
      step = k.step;
      take = k.take;
      take_parts = k.take_parts;
      put = k.put;
      recall = k.recall;
      settle = k.settle;
    }) k.first c.one_answer.ensures
