use Rattle.std.proofs.Common.{◌≡◌, ◌++◌, rules, subst}
use Rattle.std.specs.Prelude.{string_bytes}
use Rattle.chr_join.specs.AcceptedPrograms.{program_in, weighed_of}
use Rattle.chr_report.specs.working.Coming.{IsStageAfter}
use Rattle.chr_report.proofs.Turns.{opens_at, ready_after}
use Rattle.chr_report.proofs.turning.open.Goals as goal

pub returns-clause-verdict : goal.returns-clause-verdict
returns-clause-verdict c =
    let line = string_bytes c.in_ok-line.line in
    let service = c.in_ok-line.service in
    let now = c.stage_after.result in
    let after = subst (λ s. IsStageAfter c.args.asked.verb s now) c.in_ok-service.ensures.ok c.stage_after.ensures in
    let added : string_bytes c.push_str.new.self ≡ string_bytes c.args.held.now ++ line = search rules in (
      line,
      added,
      opens_at c.args.asked service (program_in c.args.accepted) line now c.answers_exist.ensures
          (weighed_of c.args.accepted).lowers c.in_ok-line.ensures.program c.in_ok-line.ensures.opened after,
    )

pub returns-clause-ready : goal.returns-clause-ready
returns-clause-ready c =
    let now = c.stage_after.result in
    ready_after c.args.asked.verb c.in_ok-line.service now c.in_ok-line.ensures.ready
    (subst (λ s. IsStageAfter c.args.asked.verb s now) c.in_ok-service.ensures.ok c.stage_after.ensures)
