use Rattle.std.proofs.Common.{rules, ◌≡◌, ◌≤◌, ◌+◌, ◌∙◌, ap, sym, subst, arith, refl}
use mathlib.Core.Bool.{true≢false}
use Rattle.std.specs.Arc.{arc_value}
use Rattle.std.specs.FinMap as map
use Rattle.chr_base.specs.FinBag as bag
use Rattle.chr_base.specs.FinBag.{◌⊖◌, IsWithin}
use Rattle.chr_base.specs.Stores.{store_of}
use Rattle.chr_base.proofs.Stores.{store_of-items}
use Rattle.chr_join.specs.AcceptedPrograms.{program_in}
use Rattle.chr_replica.specs.Replicas.{Takes}
use Rattle.chr_replica.specs.working.States.{replica}
use Rattle.chr_replica.specs.declared.limits.TheConstants.{LAST_LEASE}
use Rattle.chr_replica.proofs.States.{takes_is}
use Rattle.chr_replica.proofs.board.Board.take.Goals as goal

pub returns-then-not-has-clause-refused : goal.returns-then-not-has-clause-refused
returns-then-not-has-clause-refused c =
    let next = ap (λ b. b.replica.next) c.self.view_is in
    let few = c.if-number-gt-LAST_LEASE.false in
    let items : store_of c.atoms.result.now ≡ store_of (bag.items c.args.part.now) = search rules in (
      λ over. omega (arith, next, few, over),
      λ within. (let there : IsWithin (store_of c.atoms.result.now) c.self.inside.pool.store =
          subst (IsWithin (store_of c.atoms.result.now)) (ap (λ b. b.replica.pool) (sym c.self.view_is))
          (subst (λ x. IsWithin x c.args.self.now.replica.pool) (sym (items ∙ store_of-items c.args.part.now))
          within) in
          absurd (true≢false (sym (c.has.ensures.1 there) ∙ c.if-not-has.true))),
    )

pub invariant_of-self-2 : goal.invariant_of-self-2
invariant_of-self-2 c =
    let r = c.self.inside in
    let room : r.next ≤ LAST_LEASE = search rules in
    let there : IsWithin (store_of (bag.items c.args.part.now)) r.pool.store = search rules in
    let out : c.remove.new.self.store ≡ r.pool.store ⊖ store_of (bag.items c.args.part.now) = search rules in
    let weighed : c.remove.new.self.weighed ≡ r.pool.weighed = search rules in
    let put : c.insert.new.self ≡ map.insert r.out r.next c.args.part.now = search rules in
    record {
      sound = c.events_keep_replicas_sound.ensures.take (program_in (arc_value r.accepted)) c.args.part.now r.next _ _
          (takes_is r.ops r.pool.store _ c.args.part.now r.out _ r.next _ room there out put refl)
          c.self.invariant.sound;
      own = weighed ∙ c.self.invariant.own;
    }

pub returns-clause-ok : goal.returns-clause-ok
returns-clause-ok c =
    let r = c.self.inside in
    let room : r.next ≤ LAST_LEASE = search rules in
    let there : IsWithin (store_of (bag.items c.args.part.now)) r.pool.store = search rules in
    let out : c.remove.new.self.store ≡ r.pool.store ⊖ store_of (bag.items c.args.part.now) = search rules in
    let put : c.insert.new.self ≡ map.insert r.out r.next c.args.part.now = search rules in
    subst (λ b. Takes b.replica c.args.part.now r.next (replica r.ops c.remove.new.self.store c.insert.new.self
    (r.next + 1)))
    c.self.view_is (takes_is r.ops r.pool.store _ c.args.part.now r.out _ r.next _ room there out put refl)
