use Rattle.chr_worlds.proofs.Agreeing.{replicas_agree, parts_agree}
use Rattle.chr_worlds.proofs.laws.settled_replicas_agree.Goals as goal

pub returns-clause-agree : goal.returns-clause-agree
returns-clause-agree c = λ p q s t same confluent values hs ht equal settled settled'.
    replicas_agree c.runs_keep_replicas_sound.ensures c.events_keep_replicas_sound.ensures.first c.one_answer.ensures
    p q s t same confluent values hs ht equal settled settled'

pub returns-clause-parts : goal.returns-clause-parts
returns-clause-parts c = λ p s ss ts t confluent values hs settled whole rested rests. parts_agree
    (replicas_agree c.runs_keep_replicas_sound.ensures c.events_keep_replicas_sound.ensures.first c.one_answer.ensures)
    c.parts.ensures.determined p s ss ts t confluent values hs settled whole rested rests
