use Rattle.std.proofs.Common.{rules, ◌≡◌, refl, subst}
use Rattle.chr_weights.specs.WeighedPrograms.{rules_in}
use Rattle.chr_confluence.specs.Confluence.{Confluent}
use Rattle.chr_join.specs.AcceptedPrograms.{weighed_of}
use Rattle.chr_replica.specs.Boards.{program_on}
use Rattle.chr_workers.proofs.resting.has_the_answer.Goals as goal

pub returns : goal.returns
returns c =
    let same : c.weighed.result.now ≡ weighed_of c.args.board.now.accepted = search rules in
    let confluent = subst (λ w. Confluent (rules_in w)) same c.weighed.ensures.confluent in
    let b = c.args.board.now in
    let sound = c.is_sound.ensures in
    let one = c.one_answer.ensures (program_on b) (program_on b) b.replica b.replica (refl, refl) confluent sound.values
    refl sound.sound sound.sound c.requires c.requires in
    record { normal = one.1; only = one.2 }
