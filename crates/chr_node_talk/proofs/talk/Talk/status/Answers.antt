use Rattle.std.proofs.Common.{ap, ◌∙◌}
use Rattle.chr_ops.specs.Operations.{told_atoms}
use Rattle.chr_node_talk.proofs.talk.Talk.status.Goals as goal

pub returns-clause-answers : goal.returns-clause-answers
returns-clause-answers g c =
    let same = c.store.ensures.same in (
      c.in_ok-store.store,
      c.in_ok-store.ensures.store,
      (c.told.ensures ∙ ap told_atoms same.operations, c.len.ensures),
      same,
    )
