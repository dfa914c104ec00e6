use Rattle.std.proofs.Common.{subst, ◌∙◌}
use Rattle.std.specs.Arc.{arc_value}
use Rattle.chr_base.specs.Rewriting.{Reaches}
use Rattle.chr_base.specs.Rules.{Step}
use Rattle.chr_weights.specs.WeighedPrograms.{rules_in}
use Rattle.chr_join.specs.AcceptedPrograms.{program_in}
use Rattle.chr_replica.specs.Replicas.{Settles}
use Rattle.std.specs.Prelude.{ℕ}
use Rattle.chr_replica.specs.Boards.{program_on}
use Rattle.chr_replica.specs.working.States.{replica}
use Rattle.chr_replica.proofs.States.{hastened_is}
use Rattle.chr_replica.proofs.board.Board.hasten.Goals as goal

pub invariant_of-self : goal.invariant_of-self
invariant_of-self g c =
    let r = c.self.inside in
    let p = program_in (arc_value r.accepted) in
    let own = c.self.invariant.own in
    let t = c.hasten.new.self.store in
    let h = hastened_is p r.ops r.pool.store t r.out r.next
    (subst (λ w. Reaches (Step (rules_in w)) r.pool.store t) own c.hasten.ensures.reached) in
    record {
      sound = c.events_keep_replicas_sound.ensures.settle p h.0 _ _ h.1 c.self.invariant.sound;
      own = c.hasten.ensures.weighed ∙ own;
    }

pub returns-clause-settles : goal.returns-clause-settles
returns-clause-settles g c =
    let r = c.self.inside in
    let p = program_in (arc_value r.accepted) in
    let t = c.hasten.new.self.store in
    subst (λ b. (n : ℕ) × Settles (program_on b) b.replica n (replica r.ops t r.out r.next)) c.self.view_is
    (hastened_is p r.ops r.pool.store t r.out r.next
    (subst (λ w. Reaches (Step (rules_in w)) r.pool.store t) c.self.invariant.own c.hasten.ensures.reached))
