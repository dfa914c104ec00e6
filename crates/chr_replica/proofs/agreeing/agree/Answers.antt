use Rattle.std.proofs.Common.{rules, ◌≡◌, subst}
use Rattle.chr_weights.specs.WeighedPrograms.{rules_in}
use Rattle.chr_confluence.specs.Confluence.{Confluent}
use Rattle.chr_join.specs.AcceptedPrograms.{weighed_of}
use Rattle.chr_replica.specs.Boards.{program_on}
use Rattle.chr_replica.proofs.agreeing.agree.Goals as goal

pub returns-clause-pool : goal.returns-clause-pool
returns-clause-pool c =
    let same : c.weighed.result.now ≡ weighed_of c.args.left.now.accepted = search rules in
    let confluent = subst (λ w. Confluent (rules_in w)) same c.weighed.ensures.confluent in
    (c.one_answer.ensures (program_on c.args.left.now) (program_on c.args.right.now) c.args.left.now.replica
    c.args.right.now.replica c.requires.program confluent
    c.is_sound.ensures.values c.requires.operations c.is_sound.ensures.sound c.is_sound-2.ensures.sound c.requires.left
    c.requires.right).0

pub returns-clause-only : goal.returns-clause-only
returns-clause-only c =
    let same : c.weighed.result.now ≡ weighed_of c.args.left.now.accepted = search rules in
    let confluent = subst (λ w. Confluent (rules_in w)) same c.weighed.ensures.confluent in
    let one = c.one_answer.ensures (program_on c.args.left.now) (program_on c.args.right.now) c.args.left.now.replica
    c.args.right.now.replica c.requires.program confluent
    c.is_sound.ensures.values c.requires.operations c.is_sound.ensures.sound c.is_sound-2.ensures.sound c.requires.left
    c.requires.right in
    record { normal = one.1; only = one.2 }
