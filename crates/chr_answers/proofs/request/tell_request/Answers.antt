use Rattle.std.proofs.Common.{sym, ◌∙◌}
use Rattle.chr_json.specs.Reads.{raw_op_view}
use Rattle.chr_answers.proofs.Requests.{asks_tell, refuses_tell}
use Rattle.chr_answers.proofs.request.tell_request.Goals as goal

pub returns-in-Some : goal.returns-in-Some
returns-in-Some c = asks_tell c.args.program.now c.args.replica (raw_op_view c.args.raw.now) c.in-Some.op
    (sym c.in-Some.is ∙ c.in_ok-op.ensures)

pub returns-in-None : goal.returns-in-None
returns-in-None c = refuses_tell c.args.program.now c.args.replica (raw_op_view c.args.raw.now)
    (sym c.in-None.is ∙ c.in_ok-op.ensures)
