use Rattle.std.proofs.Common.{rules}
use Rattle.chr_answers.specs.Services.{served}
use Rattle.chr_report.proofs.Outcomes.{nothing_to_answer}
use Rattle.chr_report.proofs.running.answer_commands.Goals as goal

pub returns-in_default : goal.returns-in_default
returns-in_default g c = nothing_to_answer _ _ c.args.commands _ _ (search rules)

pub answer_all-requires-clause-ahead : goal.answer_all-requires-clause-ahead
answer_all-requires-clause-ahead g c κs within = c.none.ensures (served c.args.service) c.in-Some.input.now
