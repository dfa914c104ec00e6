use Rattle.std.specs.Prelude.{IsErrOf}
use Rattle.std.proofs.Common.{rules, ◌≡◌, ◌≤◌, All, ap, refl, sym, subst, ◌∙◌}
use Rattle.std.specs.Arc.{arc_value}
use Rattle.chr_base.specs.FinBag.{◌⊕◌}
use Rattle.chr_base.specs.Stores.{store_of}
use Rattle.chr_join.specs.AcceptedPrograms.{program_in}
use Rattle.chr_ops.specs.declared.limits.TheConstants.{MAX_TOLD}
use Rattle.chr_ops.specs.Operations.{sum_of, told_atoms}
use Rattle.chr_ops.specs.declared.fault.AddFault.TheVariants as fault
use Rattle.chr_ops.specs.declared.id.OpId.{OpId}
use Rattle.chr_ops.specs.Joins.{union, fresh, HasNoClash, IsFirstClash, IsOverLimit}
use Rattle.chr_replica.specs.Replicas.{IsDeclared, IsSound, Merges}
use Rattle.chr_replica.specs.Refusals.{refusal_of}
use Rattle.chr_replica.specs.Boards.{program_on}
use Rattle.chr_replica.specs.working.States.{replica}
use Rattle.chr_replica.proofs.States.{put_out, merges_is, refuses_merge, replica_is, same_board}
use Rattle.chr_replica.proofs.board.Board.merge.Goals as goal

pub invariant_of-self-in-Ok : goal.invariant_of-self-in-Ok
invariant_of-self-in-Ok c =
    let r = c.self.inside in
    let p = program_in (arc_value r.accepted) in
    let declared : All (IsDeclared p) c.args.ops.now = search rules in
    let joined : c.join.new.self ≡ union r.ops c.args.ops.now = search rules in
    let agree : HasNoClash r.ops c.args.ops.now = search rules in
    let room : told_atoms c.join.new.self ≤ MAX_TOLD = search rules in
    let fresh_is : store_of c.in_ok-fresh.fresh.items ≡ sum_of (fresh r.ops c.args.ops.now) = search rules in
    let put : c.insert.new.self.store ≡ r.pool.store ⊕ store_of c.in_ok-fresh.fresh.items = search rules in
    let weighed : c.insert.new.self.weighed ≡ r.pool.weighed = search rules in
    record {
      sound = c.events_keep_replicas_sound.ensures.merge p c.args.ops.now c.in-Ok.count _ _
          (merges_is p r.ops _ r.pool.store _ r.out r.next c.in-Ok.count c.args.ops.now declared agree room
          c.in-Ok.ensures.count joined
          (put ∙ ap (λ s. r.pool.store ⊕ s) fresh_is))
          c.self.invariant.sound;
      own = weighed ∙ c.self.invariant.own;
    }

pub returns-in-Ok-clause-ok : goal.returns-in-Ok-clause-ok
returns-in-Ok-clause-ok c =
    let r = c.self.inside in
    let p = program_in (arc_value r.accepted) in
    let declared : All (IsDeclared p) c.args.ops.now = search rules in
    let joined : c.join.new.self ≡ union r.ops c.args.ops.now = search rules in
    let agree : HasNoClash r.ops c.args.ops.now = search rules in
    let room : told_atoms c.join.new.self ≤ MAX_TOLD = search rules in
    let fresh_is : store_of c.in_ok-fresh.fresh.items ≡ sum_of (fresh r.ops c.args.ops.now) = search rules in
    let put : c.insert.new.self.store ≡ r.pool.store ⊕ store_of c.in_ok-fresh.fresh.items = search rules in
    subst (λ b. Merges (program_on b) b.replica c.args.ops.now c.in-Ok.count
    (replica c.join.new.self c.insert.new.self.store r.out r.next)) c.self.view_is
    (merges_is p r.ops _ r.pool.store _ r.out r.next c.in-Ok.count c.args.ops.now declared agree room
    c.in-Ok.ensures.count joined (put ∙ ap (λ s. r.pool.store ⊕ s) fresh_is))

pub invariant_of-self-in-Err : goal.invariant_of-self-in-Err
invariant_of-self-in-Err c =
    let r = c.self.inside in
    let p = program_in (arc_value r.accepted) in
    let same : c.join.new.self ≡ r.ops = search rules in
    let put : c.insert.new.self.store ≡ r.pool.store ⊕ store_of c.in_ok-fresh.fresh.items = search rules in
    let atoms : store_of c.deref-in-Err.result.now ≡ store_of c.in_ok-fresh.fresh.items = search rules in
    let weighed : c.remove.new.self.weighed ≡ r.pool.weighed = search rules in
    record {
      sound = subst (IsSound p) (sym (replica_is _ _ _ _ _ _ _ _ same
          (put_out r.pool.store _ c.remove.new.self.store _ _ put atoms c.remove.ensures.left) refl refl))
          c.self.invariant.sound;
      own = weighed ∙ c.self.invariant.own;
    }

pub returns-clause-refused : goal.returns-clause-refused
returns-clause-refused c =
    let b = c.args.self.now in
    let declared : All (IsDeclared (program_on b)) c.args.ops.now = search rules in
    let is : c.from.result ≡ refusal_of c.in-Err.fault = search rules in
    let clash = subst (λ b. (id : OpId) → IsErrOf c.join.result (fault.Clash id)
    → IsFirstClash b.replica.operations c.args.ops.now id) c.self.view_is c.join.ensures.clash in
    let full = subst (λ b. IsErrOf c.join.result fault.Full → HasNoClash b.replica.operations c.args.ops.now
    × IsOverLimit b.replica.operations c.args.ops.now) c.self.view_is c.join.ensures.full in
    rw is (refuses_merge (program_on b) b.replica c.args.ops.now c.join.result c.in-Err.fault declared c.in-Err.is
    clash full)

pub returns-clause-err : goal.returns-clause-err
returns-clause-err c =
    let r = c.self.inside in
    let same : c.join.new.self ≡ r.ops = search rules in
    let put : c.insert.new.self.store ≡ r.pool.store ⊕ store_of c.in_ok-fresh.fresh.items = search rules in
    let atoms : store_of c.deref-in-Err.result.now ≡ store_of c.in_ok-fresh.fresh.items = search rules in
    same_board (arc_value r.accepted) _ _ (replica_is _ _ _ _ _ _ _ _ same
    (put_out r.pool.store _ c.remove.new.self.store _ _ put atoms c.remove.ensures.left) refl refl) ∙ c.self.view_is
