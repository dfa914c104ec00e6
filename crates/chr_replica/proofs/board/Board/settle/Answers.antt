use Rattle.std.proofs.Common.{rules, ◌≡◌, ◌≤◌, IfOk, IfErr, OnOk, refl, sym, ◌∙◌, subst}
use Rattle.std.specs.Arc.{arc_value}
use Rattle.chr_base.specs.Rewriting.{IsAtRest}
use Rattle.chr_base.specs.Rules.{Step}
use Rattle.chr_base.specs.Programs.{rules_of}
use Rattle.chr_ops.specs.declared.limits.TheConstants.{MAX_TOLD}
use Rattle.chr_ops.specs.Operations.{told_atoms}
use Rattle.chr_weights.specs.WeighedPrograms.{program_of, rules_in}
use Rattle.chr_rewrite.specs.Pools.{TookSteps}
use Rattle.chr_join.specs.AcceptedPrograms.{program_in, weighed_of}
use Rattle.chr_replica.specs.Replicas.{Settles}
use Rattle.chr_replica.specs.Boards.{program_on}
use Rattle.chr_replica.specs.working.States.{replica}
use Rattle.chr_replica.proofs.States.{rested_is, replica_is, sound_either, same_board, stays_where_at_rest}
use Rattle.chr_replica.proofs.board.Board.settle.Goals as goal

pub invariant_of-self : goal.invariant_of-self
invariant_of-self c =
    let r = c.self.inside in
    let a = arc_value r.accepted in
    let few : told_atoms r.ops ≤ MAX_TOLD = search rules in
    let own = c.self.invariant.own in
    let t = c.rest.new.self.store in
    let rested = rested_is (weighed_of a) r.ops r.pool.store t r.out r.next c.rest.result c.self.invariant.sound few
    (subst (λ w. IfOk c.rest.result (λ n. TookSteps (program_of w) n r.pool.store t)) own c.rest.ensures.ok)
    (subst (λ w. IfErr c.rest.result (λ e. TookSteps (program_of w) e.steps r.pool.store t)) own
    c.rest.ensures.stopped) in
    let p = program_in a in
    let s = replica r.ops r.pool.store r.out r.next in
    let u = replica r.ops t r.out r.next in
    record {
      sound = sound_either p s u c.rest.result _ _ (λ n h. c.events_keep_replicas_sound.ensures.settle p n s u h)
          (λ e h. c.events_keep_replicas_sound.ensures.settle p e.steps s u h) rested.0 rested.1
          c.self.invariant.sound;
      own = c.rest.ensures.weighed ∙ own;
    }

pub returns-clause-ok : goal.returns-clause-ok
returns-clause-ok c =
    let r = c.self.inside in
    let a = arc_value r.accepted in
    let few : told_atoms r.ops ≤ MAX_TOLD = search rules in
    let own = c.self.invariant.own in
    let t = c.rest.new.self.store in
    let rested = rested_is (weighed_of a) r.ops r.pool.store t r.out r.next c.rest.result c.self.invariant.sound few
    (subst (λ w. IfOk c.rest.result (λ n. TookSteps (program_of w) n r.pool.store t)) own c.rest.ensures.ok)
    (subst (λ w. IfErr c.rest.result (λ e. TookSteps (program_of w) e.steps r.pool.store t)) own
    c.rest.ensures.stopped) in
    subst (λ b. IfOk c.rest.result (λ n. Settles (program_on b) b.replica n (replica r.ops t r.out r.next)))
    c.self.view_is rested.0

pub returns-clause-stopped : goal.returns-clause-stopped
returns-clause-stopped c =
    let r = c.self.inside in
    let a = arc_value r.accepted in
    let few : told_atoms r.ops ≤ MAX_TOLD = search rules in
    let own = c.self.invariant.own in
    let t = c.rest.new.self.store in
    let rested = rested_is (weighed_of a) r.ops r.pool.store t r.out r.next c.rest.result c.self.invariant.sound few
    (subst (λ w. IfOk c.rest.result (λ n. TookSteps (program_of w) n r.pool.store t)) own c.rest.ensures.ok)
    (subst (λ w. IfErr c.rest.result (λ e. TookSteps (program_of w) e.steps r.pool.store t)) own
    c.rest.ensures.stopped) in
    subst (λ b. IfErr c.rest.result (λ e. Settles (program_on b) b.replica e.steps
    (replica r.ops t r.out r.next))) c.self.view_is rested.1

pub returns-clause-rests : goal.returns-clause-rests
returns-clause-rests c =
    subst (λ b. OnOk c.rest.result (IsAtRest (Step (rules_of (program_on b))) c.rest.new.self.store)) c.self.view_is
    (subst (λ w. OnOk c.rest.result (IsAtRest (Step (rules_in w)) c.rest.new.self.store)) c.self.invariant.own
    c.rest.ensures.rests)

pub returns-clause-resting : goal.returns-clause-resting
returns-clause-resting c = λ rested.
    let r = c.self.inside in
    let a = arc_value r.accepted in
    let own = c.self.invariant.own in
    let t = c.rest.new.self.store in
    let before = subst (λ b. IsAtRest (Step (rules_of (program_on b))) b.replica.pool) (sym c.self.view_is) rested in
    let stays = stays_where_at_rest (program_in a) r.pool.store t c.rest.result before
    (subst (λ w. IfOk c.rest.result (λ n. TookSteps (program_of w) n r.pool.store t)) own c.rest.ensures.ok)
    (subst (λ w. IfErr c.rest.result (λ e. TookSteps (program_of w) e.steps r.pool.store t)) own
    c.rest.ensures.stopped) in (
      same_board a _ _ (replica_is r.ops r.ops t r.pool.store r.out r.out r.next r.next refl stays.0 refl refl)
          ∙ c.self.view_is,
      stays.1,
      stays.2,
    )
