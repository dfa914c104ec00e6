use Rattle.std.proofs.lemmas.Result.{on_ok_weaker}
use Rattle.chr_answers.specs.working.Resting.{AreIdle}
use Rattle.chr_answers.proofs.service.Service.settle.Goals as goal

pub returns-in-OneWorker-clause-rests : goal.returns-in-OneWorker-clause-rests
returns-in-OneWorker-clause-rests g c =
    let idle : AreIdle c.args.self.now c.args.replica = c.has_parts_out.ensures c.if-has_parts_out.false in
    on_ok_weaker c.settle_alone.result (λ f. f idle) c.settle_alone.ensures.rests
