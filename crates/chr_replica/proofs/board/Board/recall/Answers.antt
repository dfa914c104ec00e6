use Rattle.std.proofs.Common.{rules, ◌≡◌, ◌∙◌, Some, subst}
use Rattle.std.specs.Arc.{arc_value}
use Rattle.std.specs.FinMap as map
use Rattle.chr_base.specs.FinBag as bag
use Rattle.chr_base.specs.FinBag.{◌⊕◌}
use Rattle.chr_base.specs.Stores.{store_of}
use Rattle.chr_join.specs.AcceptedPrograms.{program_in}
use Rattle.chr_replica.specs.Replicas.{Recalls}
use Rattle.chr_replica.specs.working.States.{replica}
use Rattle.chr_replica.proofs.States.{recalls_is}
use Rattle.chr_replica.proofs.board.Board.recall.Goals as goal

pub invariant_of-self-2 : goal.invariant_of-self-2
invariant_of-self-2 c =
    let r = c.self.inside in
    let out : map.get r.out c.args.number ≡ Some c.in-Some.part.now = search rules in
    let put : c.insert.new.self.store ≡ r.pool.store ⊕ store_of (bag.items c.in-Some.part.now) = search rules in
    let weighed : c.insert.new.self.weighed ≡ r.pool.weighed = search rules in
    record {
      sound = c.events_keep_replicas_sound.ensures.recall (program_in (arc_value r.accepted)) c.args.number _ _
          (recalls_is r.ops r.pool.store _ c.in-Some.part.now r.out _ r.next c.args.number out put c.remove.ensures)
          c.self.invariant.sound;
      own = weighed ∙ c.self.invariant.own;
    }

pub returns-clause-ok : goal.returns-clause-ok
returns-clause-ok c =
    let r = c.self.inside in
    let out : map.get r.out c.args.number ≡ Some c.in-Some.part.now = search rules in
    let put : c.insert.new.self.store ≡ r.pool.store ⊕ store_of (bag.items c.in-Some.part.now) = search rules in
    subst (λ b. Recalls b.replica c.args.number (replica r.ops c.insert.new.self.store c.remove.new.self r.next))
    c.self.view_is
    (recalls_is r.ops r.pool.store _ c.in-Some.part.now r.out _ r.next c.args.number out put c.remove.ensures)
