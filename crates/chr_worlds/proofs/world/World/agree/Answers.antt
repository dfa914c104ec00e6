use Rattle.std.proofs.Common.{rules, ◌≡◌, subst}
use Rattle.chr_weights.specs.WeighedPrograms.{rules_in}
use Rattle.chr_confluence.specs.Confluence.{Confluent}
use Rattle.chr_join.specs.AcceptedPrograms.{program_in, weighed_of}
use Rattle.chr_replica.specs.Replicas.{IsSound}
use Rattle.chr_worlds.specs.Sharing.{shared_program}
use Rattle.chr_worlds.proofs.Agreeing.{agree_at}
use Rattle.chr_worlds.proofs.world.World.agree.Goals as goal

pub returns : goal.returns
returns c =
    let w = c.args.self.now in
    let one = c.in-Some.one.now in
    let other = c.in-Some-board.other.now in
    let same : c.weighed.result.now ≡ weighed_of w.accepted = search rules in
    let confluent = subst (λ v. Confluent (rules_in v)) same c.weighed.ensures.confluent in
    let left = subst (λ a. IsSound (program_in a) one.replica) c.in-Some.ensures.program c.is_sound.ensures.sound in
    let right = subst (λ a. IsSound (program_in a) other.replica) c.in-Some-board.ensures.program
    c.is_sound-2.ensures.sound in
    agree_at c.one_answer.ensures (shared_program w) w.replicas c.args.left c.args.right one.replica other.replica
    confluent c.is_sound.ensures.values left right c.in-Some.ensures.replica c.in-Some-board.ensures.replica
