use Rattle.chr_worlds.proofs.Exchanging.{syncs_unite, syncs_meet, syncs_are_declared}
use Rattle.chr_worlds.proofs.laws.exchanges_unite.Goals as goal

pub returns-clause-union : goal.returns-clause-union
returns-clause-union c = λ p w v a b n s t u h at_a at_b after.
    syncs_unite c.exchange_laws.ensures.exchange p w v a b n s t u h at_a at_b after

pub returns-clause-meet : goal.returns-clause-meet
returns-clause-meet c = λ p w v z a b m n s t s' t' at_a at_b same h g now_a now_b.
    syncs_meet c.exchange_laws.ensures.exchange p w v z a b m n s t s' t' at_a at_b same h g now_a now_b

pub returns-clause-declared : goal.returns-clause-declared
returns-clause-declared c = λ p w v a b sound h. syncs_are_declared p w v a b sound h
