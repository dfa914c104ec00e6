use Rattle.chr_node_talk.proofs.talk.Talk.find.Goals as goal

pub returns-clause-answers : goal.returns-clause-answers
returns-clause-answers g c =
    (c.in_ok-store.store, c.in_ok-store.ensures.store, c.in_ok-found.ensures, c.store.ensures.same)
