use Rattle.std.proofs.Common.{rules, ◌≡◌, sym, subst}
use Rattle.chr_answers.specs.working.Obeying.{HoldsMore}
use Rattle.chr_answers.specs.Services.{held, operations_held, served, AreBetweenLines}
use Rattle.chr_answers.specs.working.Resting.{TellsAt}
use Rattle.chr_answers.proofs.BetweenLines.{ready_for}
use Rattle.chr_answers.proofs.ToldAhead.{holds_more, told_ready}
use Rattle.chr_answers.proofs.service.Service.tell_rested.Goals as goal

pub returns-in_default-clause-ready : goal.returns-in_default-clause-ready
returns-in_default-clause-ready g c =
    let v = c.tell_replica.new.world in
    let same : v.replicas ≡ c.args.self.now.world.replicas = search rules in
    ready_for c.args.self.now.world.accepted v.accepted v.replicas c.tell_replica.ensures.program
    (subst (AreBetweenLines (served c.args.self.now)) (sym same) c.requires.ready)

pub rest_by_schedule-requires : goal.rest_by_schedule-requires
rest_by_schedule-requires g c =
    let p = served c.args.self.now in
    let w = c.args.self.now.world in
    let v = c.tell_replica.new.world in
    let ops = c.args.tells.now.ops.items in
    let told : TellsAt p w.replicas c.args.tells.now.replica ops v.replicas = search rules in (
      c.type_bounds.sync-R,
      ready_for w.accepted v.accepted v.replicas c.tell_replica.ensures.program
          (told_ready p w.replicas c.args.tells.now.replica ops v.replicas told c.requires.ready),
    )

pub returns-clause-told : goal.returns-clause-told
returns-clause-told g c =
    let p = served c.args.self.now in
    let w = c.args.self.now.world in
    let v = c.tell_replica.new.world in
    let r = c.args.tells.now.replica in
    let ops = c.args.tells.now.ops.items in
    let told : TellsAt p w.replicas r ops v.replicas = search rules in
    let same : held c.rest_by_schedule.new.self ≡ operations_held v.replicas =
    c.in_ok-rest_by_schedule.ensures.operations in
    subst (HoldsMore p (held c.args.self.now) r ops) (sym same) (holds_more p w.replicas r ops v.replicas told)
