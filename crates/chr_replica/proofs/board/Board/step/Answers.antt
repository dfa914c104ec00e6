use Rattle.std.proofs.Common.{rules, ◌≡◌, ◌∙◌, subst}
use Rattle.std.specs.Arc.{arc_value}
use Rattle.chr_weights.specs.WeighedPrograms.{rules_in}
use Rattle.chr_join.specs.AcceptedPrograms.{program_in}
use Rattle.chr_rewrite.specs.Derivations.{LeadsTo}
use Rattle.chr_replica.specs.Replicas.{Steps}
use Rattle.chr_replica.specs.Boards.{program_on}
use Rattle.chr_replica.specs.working.States.{replica}
use Rattle.chr_replica.proofs.States.{steps_is}
use Rattle.chr_replica.proofs.board.Board.step.Goals as goal

pub invariant_of-self-2 : goal.invariant_of-self-2
invariant_of-self-2 c =
    let r = c.self.inside in
    let p = program_in (arc_value r.accepted) in
    let taken : LeadsTo (rules_in r.pool.weighed) c.args.step.now r.pool.store c.take_step.new.self.store = search rules
    in
    let leads = subst (λ w. LeadsTo (rules_in w) c.args.step.now r.pool.store c.take_step.new.self.store)
    c.self.invariant.own taken in
    let weighed : c.take_step.new.self.weighed ≡ r.pool.weighed = search rules in
    record {
      sound = c.events_keep_replicas_sound.ensures.step p c.args.step.now _ _
          (steps_is p c.args.step.now r.ops r.pool.store _ r.out r.next leads) c.self.invariant.sound;
      own = weighed ∙ c.self.invariant.own;
    }

pub returns-clause-ok : goal.returns-clause-ok
returns-clause-ok c =
    let r = c.self.inside in
    let p = program_in (arc_value r.accepted) in
    let taken : LeadsTo (rules_in r.pool.weighed) c.args.step.now r.pool.store c.take_step.new.self.store = search rules
    in
    let leads = subst (λ w. LeadsTo (rules_in w) c.args.step.now r.pool.store c.take_step.new.self.store)
    c.self.invariant.own taken in
    subst (λ b. Steps (program_on b) b.replica c.args.step.now (replica r.ops c.take_step.new.self.store r.out r.next))
    c.self.view_is (steps_is p c.args.step.now r.ops r.pool.store _ r.out r.next leads)
