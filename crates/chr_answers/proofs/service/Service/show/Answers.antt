use Rattle.std.proofs.Common.{refl}
use Rattle.chr_answers.specs.Services.{served}
use Rattle.chr_answers.proofs.Reading.{shown}
use Rattle.chr_answers.proofs.service.Service.show.Goals as goal

pub returns : goal.returns
returns g c =
    record {
      program = refl;
      answer =
          shown (served c.args.self.now) c.args.self.now.world.replicas c.args.replica c.in_ok-shown.shown
          c.shown.result c.requires.ready c.requires.rests c.in_ok-shown.ensures c.shown.ensures;
    }
