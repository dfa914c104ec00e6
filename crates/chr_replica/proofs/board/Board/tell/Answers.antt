use Rattle.std.proofs.Common.{rules, ◌≡◌, ◌∙◌, ◌≤◌, ◌+◌}
use Rattle.std.specs.Arc.{arc_value}
use Rattle.std.specs.FinMap as map
use Rattle.chr_base.specs.FinBag.{◌⊕◌}
use Rattle.chr_base.specs.Stores.{size}
use Rattle.chr_join.specs.AcceptedPrograms.{program_in}
use Rattle.chr_ops.specs.declared.limits.TheConstants.{MAX_TOLD}
use Rattle.chr_ops.specs.Operations.{told_atoms, IsNew}
use Rattle.chr_replica.specs.Replicas.{IsDeclared}
use Rattle.chr_replica.proofs.States.{tells_is}
use Rattle.chr_replica.proofs.board.Board.tell.Goals as goal

pub invariant_of-self-2 : goal.invariant_of-self-2
invariant_of-self-2 c =
    let r = c.self.inside in
    let op = c.args.op in
    let p = program_in (arc_value r.accepted) in
    let declared : IsDeclared p op = search rules in
    let new : IsNew r.ops op = search rules in
    let room : told_atoms r.ops + size op.1 ≤ MAX_TOLD = search rules in
    let joined : c.put_in.new.ops ≡ map.insert r.ops op.0 op.1 = search rules in
    let put : c.put_in.new.pool.store ≡ r.pool.store ⊕ op.1 = search rules in
    let weighed : c.put_in.new.pool.weighed ≡ r.pool.weighed = search rules in
    record {
      sound = c.events_keep_replicas_sound.ensures.tell p op _ _
          (tells_is p r.ops _ r.pool.store _ r.out r.next op declared new room joined put) c.self.invariant.sound;
      own = weighed ∙ c.self.invariant.own;
    }
