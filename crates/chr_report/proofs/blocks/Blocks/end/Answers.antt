use Rattle.chr_answers.specs.Services.{served}
use Rattle.chr_report.proofs.blocks.Blocks.end.Goals as goal

pub answer_all-requires-clause-ahead : goal.answer_all-requires-clause-ahead
answer_all-requires-clause-ahead g c κs within = c.none.ensures (served c.args.self.at.service) c.deref.result.now
