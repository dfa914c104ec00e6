use Rattle.std.proofs.Common.{rules, ◌≡◌, ◌∙◌, None, subst}
use Rattle.std.specs.Arc.{arc_value}
use Rattle.chr_base.specs.FinBag.{◌⊕◌}
use Rattle.chr_join.specs.AcceptedPrograms.{program_in}
use Rattle.chr_replica.specs.Boards.{program_on}
use Rattle.chr_replica.specs.RestedOps.{carried_number, AreRestedBy, IsOut, TellsThem}
use Rattle.chr_replica.specs.declared.rested.Placed.TheVariants as placed
use Rattle.chr_replica.specs.working.Joining.{left_out, JoinsNew}
use Rattle.chr_replica.specs.working.States.{replica}
use Rattle.chr_replica.proofs.RestedTells.{rested_keeps, told_in_pool}
use Rattle.chr_replica.proofs.board.Board.tell_in_pool.Goals as goal

pub invariant_of-self-2 : goal.invariant_of-self-2
invariant_of-self-2 c =
    let r = c.self.inside in
    let p = program_in (arc_value r.accepted) in
    let t = c.args.told.now in
    let joins : JoinsNew r.ops t.ops.now c.join_pooled.new.ops = search rules in
    let put : c.join_pooled.new.pool.store ≡ r.pool.store ⊕ t.rested.now = search rules in
    let weighed : c.join_pooled.new.pool.weighed ≡ r.pool.weighed = search rules in
    let gone : c.leave_out.new.self ≡ left_out r.out t.carried = search rules in
    let rested : AreRestedBy p t = search rules in
    let out : IsOut r.out t.carried = search rules in
    record {
      sound = rested_keeps p _ (carried_number t.carried) t.ops.now t.rested.now None _
          (told_in_pool p r.ops c.join_pooled.new.ops r.pool.store r.out r.next t rested joins out _ _ put gone)
          c.self.invariant.sound;
      own = weighed ∙ c.self.invariant.own;
    }

pub returns-clause-told : goal.returns-clause-told
returns-clause-told c =
    let r = c.self.inside in
    let p = program_in (arc_value r.accepted) in
    let t = c.args.told.now in
    let joins : JoinsNew r.ops t.ops.now c.join_pooled.new.ops = search rules in
    let put : c.join_pooled.new.pool.store ≡ r.pool.store ⊕ t.rested.now = search rules in
    let gone : c.leave_out.new.self ≡ left_out r.out t.carried = search rules in
    let rested : AreRestedBy p t = search rules in
    let out : IsOut r.out t.carried = search rules in
    subst (λ b. TellsThem (program_on b) t placed.InPool b.replica
    (replica c.join_pooled.new.ops c.join_pooled.new.pool.store c.leave_out.new.self r.next)) c.self.view_is
    (told_in_pool p r.ops c.join_pooled.new.ops r.pool.store r.out r.next t rested joins out _ _ put gone)
