use Rattle.std.proofs.Common.{rules, ◌≡◌, refl, sym, subst}
use Rattle.std.specs.Arc.{arc_value}
use Rattle.std.specs.FinMap as map
use Rattle.chr_base.specs.FinBag as bag
use Rattle.chr_join.specs.AcceptedPrograms.{program_in, weighed_of}
use Rattle.chr_replica.specs.Replicas.{IsSound}
use Rattle.chr_replica.proofs.States.{replica_is}
use Rattle.chr_replica.proofs.board.Board.open.Goals as goal

pub invariant_of-result : goal.invariant_of-result
invariant_of-result c =
    let p = program_in (arc_value c.args.accepted) in
    let none : c.in_ok-pool.pool.store ≡ bag.empty = search rules in
    let weighed : c.in_ok-pool.pool.weighed ≡ weighed_of (arc_value c.args.accepted) = search rules in
    record {
      sound = subst (IsSound p)
          (sym (replica_is _ map.empty _ bag.empty _ map.empty 1 1 c.new.ensures none c.new-2.ensures refl))
          (c.events_keep_replicas_sound.ensures.first p);
      own = weighed;
    }
