use Rattle.chr_replica.proofs.Keeping.{first_is_sound, tell_keeps, merge_keeps, step_keeps, take_keeps}
use Rattle.chr_replica.proofs.Keeping.{take_parts_keeps, put_keeps, recall_keeps, settle_keeps}
use Rattle.chr_replica.proofs.RestedTells.{rested_keeps}
use Rattle.chr_replica.proofs.laws.events_keep_replicas_sound.Goals as goal

pub returns-clause-first : goal.returns-clause-first
returns-clause-first c = λ p. first_is_sound p

pub returns-clause-tell : goal.returns-clause-tell
returns-clause-tell c = λ p op s t h sound. tell_keeps p op s t h sound

pub returns-clause-merge : goal.returns-clause-merge
returns-clause-merge c = λ p ops n s t h sound. merge_keeps p ops n s t h sound

pub returns-clause-step : goal.returns-clause-step
returns-clause-step c = λ p step s t h sound. step_keeps p step s t h sound

pub returns-clause-take : goal.returns-clause-take
returns-clause-take c = λ p part number s t h sound. take_keeps p part number s t h sound

pub returns-clause-take_parts : goal.returns-clause-take_parts
returns-clause-take_parts c = λ p n parts s t h sound. take_parts_keeps p n parts s t h sound

pub returns-clause-put : goal.returns-clause-put
returns-clause-put c = λ p number part result s t h sound. put_keeps p number part result s t h sound

pub returns-clause-recall : goal.returns-clause-recall
returns-clause-recall c = λ p number s t h sound. recall_keeps p number s t h sound

pub returns-clause-settle : goal.returns-clause-settle
returns-clause-settle c = λ p n s t h sound. settle_keeps p n s t h sound

pub returns-clause-tell_rested : goal.returns-clause-tell_rested
returns-clause-tell_rested c = λ p carried ops rested lease s t h sound.
    rested_keeps p s carried ops rested lease t h sound
