use Rattle.std.proofs.Common.{rules, ◌≡◌, ◌≤◌, ◌+◌, Some, subst}
use Rattle.std.specs.Arc.{arc_value}
use Rattle.std.specs.FinMap as map
use Rattle.chr_join.specs.AcceptedPrograms.{program_in}
use Rattle.chr_replica.specs.Boards.{program_on}
use Rattle.chr_replica.specs.declared.limits.TheConstants.{LAST_LEASE}
use Rattle.chr_replica.specs.RestedOps.{carried_number, AreRestedBy, IsOut, TellsThem}
use Rattle.chr_replica.specs.declared.rested.Placed.TheVariants as placed
use Rattle.chr_replica.specs.working.Joining.{left_out, JoinsNew}
use Rattle.chr_replica.specs.working.States.{replica}
use Rattle.chr_replica.proofs.RestedTells.{rested_keeps, told_on_lease}
use Rattle.chr_replica.proofs.board.Board.tell_on_lease.Goals as goal

pub invariant_of-self-2 : goal.invariant_of-self-2
invariant_of-self-2 c =
    let r = c.self.inside in
    let p = program_in (arc_value r.accepted) in
    let t = c.args.told.now in
    let joins : JoinsNew r.ops t.ops.now c.join_leased.new.ops = search rules in
    let room : r.next ≤ LAST_LEASE = search rules in
    let same : c.in_ok-part.part ≡ t.rested.now = search rules in
    let put : c.join_leased.new.out ≡ map.insert r.out r.next c.in_ok-part.part = search rules in
    let gone : c.leave_out.new.self ≡ left_out c.join_leased.new.out t.carried = search rules in
    let rested : AreRestedBy p t = search rules in
    let out : IsOut r.out t.carried = search rules in
    record {
      sound = rested_keeps p _ (carried_number t.carried) t.ops.now t.rested.now (Some r.next) _
          (told_on_lease p r.ops c.join_leased.new.ops r.pool.store r.out r.next t rested joins out _ _ _ room
          c.self.invariant.sound.below same put gone) c.self.invariant.sound;
      own = c.self.invariant.own;
    }

pub returns-clause-told : goal.returns-clause-told
returns-clause-told c =
    let r = c.self.inside in
    let p = program_in (arc_value r.accepted) in
    let t = c.args.told.now in
    let joins : JoinsNew r.ops t.ops.now c.join_leased.new.ops = search rules in
    let room : r.next ≤ LAST_LEASE = search rules in
    let same : c.in_ok-part.part ≡ t.rested.now = search rules in
    let put : c.join_leased.new.out ≡ map.insert r.out r.next c.in_ok-part.part = search rules in
    let gone : c.leave_out.new.self ≡ left_out c.join_leased.new.out t.carried = search rules in
    let rested : AreRestedBy p t = search rules in
    let out : IsOut r.out t.carried = search rules in
    subst (λ b. TellsThem (program_on b) t (placed.Leased r.next) b.replica
    (replica c.join_leased.new.ops r.pool.store c.leave_out.new.self (r.next + 1))) c.self.view_is
    (told_on_lease p r.ops c.join_leased.new.ops r.pool.store r.out r.next t rested joins out _ _ _ room
    c.self.invariant.sound.below same put gone)
