use Rattle.std.proofs.Common.{length, ap, arith}
use Rattle.chr_overlaps.proofs.Bounds.{guard_few, joint_guards_few}
use Rattle.chr_overlaps.proofs.unify.class_guards.Goals as goal

pub push_guard-requires-clause-room : goal.push_guard-requires-clause-room
push_guard-requires-clause-room c =
    let few = guard_few c.args.first.now in
    let none = ap length c.new-guards.ensures in
    omega (arith, few, none)

pub push_guard-requires-2-clause-room : goal.push_guard-requires-2-clause-room
push_guard-requires-2-clause-room c =
    joint_guards_few c.args.first.now c.args.second.now _ c.new-guards.result.items c.push_guard.new.guards.items
    c.new-guards.ensures c.push_guard.ensures
