use Rattle.std.proofs.Common.{rules, ◌≡◌, ◌≤◌, ◌+◌, ◌/◌, length, ap, subst, ◌∙◌}
use Rattle.std.specs.Arc.{arc_value}
use Rattle.chr_base.specs.FinBag as bag
use Rattle.chr_base.specs.Stores.{store_of}
use Rattle.chr_join.specs.AcceptedPrograms.{program_in, weighed_of}
use Rattle.chr_replica.specs.Replicas.{TakesParts}
use Rattle.chr_replica.specs.declared.limits.TheConstants.{LAST_LEASE}
use Rattle.chr_replica.specs.Leases.{with_parts, parts_in}
use Rattle.chr_replica.specs.working.States.{replica}
use Rattle.chr_replica.proofs.States.{takes_parts_is}
use Rattle.chr_replica.proofs.board.Board.take_parts.Goals as goal

pub insert_all-requires-clause-above : goal.insert_all-requires-clause-above
insert_all-requires-clause-above c = c.self.invariant.sound.below

pub invariant_of-self-2 : goal.invariant_of-self-2
invariant_of-self-2 c =
    let r = c.self.inside in
    let parts = parts_in c.in_ok-leases.leases.items in
    let next : c.saturating_add-next.result ≡ r.next + c.args.count = search rules in
    let room : r.next + c.args.count ≤ LAST_LEASE + 1 = search rules in
    let whole : store_of c.deref-4.result.now ≡ r.pool.store = ap store_of c.deref-4.ensures.value ∙
    c.in_ok-whole.ensures in
    let none : c.in_ok-empty.empty.store ≡ bag.empty = search rules in
    let put : c.insert_all.new.self ≡ with_parts r.out r.next parts = search rules in
    let weighed : c.in_ok-empty.empty.weighed ≡ weighed_of (arc_value r.accepted) = search rules in
    record {
      sound = c.events_keep_replicas_sound.ensures.take_parts (program_in (arc_value r.accepted)) c.args.count parts _ _
          (takes_parts_is r.ops r.pool.store _ r.out _ r.next _ c.args.count
          (length c.deref-4.result.now / c.args.count)
          c.deref-4.result.now parts room c.in_ok-leases.ensures.count c.in_ok-leases.ensures.sum whole
          c.in_ok-leases.ensures.even none put next) c.self.invariant.sound;
      own = weighed;
    }

pub returns-clause-ok : goal.returns-clause-ok
returns-clause-ok c =
    let r = c.self.inside in
    let parts = parts_in c.in_ok-leases.leases.items in
    let next : c.saturating_add-next.result ≡ r.next + c.args.count = search rules in
    let room : r.next + c.args.count ≤ LAST_LEASE + 1 = search rules in
    let whole : store_of c.deref-4.result.now ≡ r.pool.store = ap store_of c.deref-4.ensures.value ∙
    c.in_ok-whole.ensures in
    let none : c.in_ok-empty.empty.store ≡ bag.empty = search rules in
    let put : c.insert_all.new.self ≡ with_parts r.out r.next parts = search rules in
    subst (λ b. TakesParts b.replica c.args.count parts
    (replica r.ops c.in_ok-empty.empty.store c.insert_all.new.self c.saturating_add-next.result)) c.self.view_is
    (takes_parts_is r.ops r.pool.store _ r.out _ r.next _ c.args.count (length c.deref-4.result.now / c.args.count)
    c.deref-4.result.now parts room c.in_ok-leases.ensures.count c.in_ok-leases.ensures.sum whole
    c.in_ok-leases.ensures.even none put next)
