use Rattle.std.proofs.Common.{rules, ◌≡◌, ◌∙◌, Some, subst}
use Rattle.std.specs.Arc.{arc_value}
use Rattle.std.specs.FinMap as map
use Rattle.chr_base.specs.FinBag as bag
use Rattle.chr_base.specs.FinBag.{◌⊕◌}
use Rattle.chr_base.specs.Stores.{store_of}
use Rattle.chr_base.specs.Rewriting.{Reaches}
use Rattle.chr_base.specs.Rules.{Step}
use Rattle.chr_base.specs.Sameness.{AreSame}
use Rattle.chr_join.specs.AcceptedPrograms.{program_in}
use Rattle.chr_weights.specs.WeighedPrograms.{program_of, rules_in}
use Rattle.chr_replica.specs.Replicas.{Puts}
use Rattle.chr_replica.specs.Boards.{program_on}
use Rattle.chr_replica.specs.working.States.{replica}
use Rattle.chr_replica.proofs.States.{puts_is}
use Rattle.chr_replica.proofs.board.Board.put.Goals as goal

pub invariant_of-self-2 : goal.invariant_of-self-2
invariant_of-self-2 c =
    let r = c.self.inside in
    let d = c.args.done in
    let p = program_in (arc_value r.accepted) in
    let out : map.get r.out d.number ≡ Some d.part = search rules in
    let same : AreSame (program_of d.weighed) p = search rules in
    let reached : Reaches (Step (rules_in d.weighed)) d.part d.result = search rules in
    let put : c.insert.new.self.store ≡ r.pool.store ⊕ store_of (bag.items d.result) = search rules in
    let weighed : c.insert.new.self.weighed ≡ r.pool.weighed = search rules in
    let gone : c.remove.new.self ≡ map.remove r.out d.number = search rules in
    record {
      sound = c.events_keep_replicas_sound.ensures.put p d.number d.part d.result _ _
          (puts_is p (program_of d.weighed) r.ops r.pool.store _ d.part d.result r.out _ r.next d.number out
          c.same_programs_reach_alike.ensures same reached put gone) c.self.invariant.sound;
      own = weighed ∙ c.self.invariant.own;
    }

pub returns-clause-ok : goal.returns-clause-ok
returns-clause-ok c =
    let r = c.self.inside in
    let d = c.args.done in
    let p = program_in (arc_value r.accepted) in
    let out : map.get r.out d.number ≡ Some d.part = search rules in
    let same : AreSame (program_of d.weighed) p = search rules in
    let reached : Reaches (Step (rules_in d.weighed)) d.part d.result = search rules in
    let put : c.insert.new.self.store ≡ r.pool.store ⊕ store_of (bag.items d.result) = search rules in
    let gone : c.remove.new.self ≡ map.remove r.out d.number = search rules in
    subst (λ b. Puts (program_on b) b.replica d.number d.part d.result
    (replica r.ops c.insert.new.self.store c.remove.new.self r.next)) c.self.view_is
    (puts_is p (program_of d.weighed) r.ops r.pool.store _ d.part d.result r.out _ r.next d.number out
    c.same_programs_reach_alike.ensures same reached put gone)
