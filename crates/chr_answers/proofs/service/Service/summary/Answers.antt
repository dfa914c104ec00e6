use Rattle.std.proofs.Common.{refl}
use Rattle.chr_answers.specs.Services.{served}
use Rattle.chr_answers.proofs.Reading.{none_summed, summary_answers}
use Rattle.chr_answers.proofs.service.Service.summary.Goals as goal

pub returns : goal.returns
returns c =
    let w = c.args.self.now.world.replicas in
    record {
      program = refl;
      answer =
          summary_answers (served c.args.self.now) w w c.args.replica c.in_ok-found.found c.in-Some.summary
          c.in-Some.is c.ranges-ranges.ensures.apart c.in_ok-found.ensures;
    }

pub returns-in_default : goal.returns-in_default
returns-in_default c =
    let w = c.args.self.now.world.replicas in
    record {
      program = refl;
      answer = none_summed (served c.args.self.now) w w c.args.replica c.in_ok-found.found c.in_default.is
          c.in_ok-found.ensures;
    }
