use Rattle.chr_json.proofs.Laws.{json_none, json_some}
use Rattle.chr_json.proofs.line.value_in.Goals as goal

pub returns-in-Ok : goal.returns-in-Ok
returns-in-Ok c = json_some c.args.line.now _ c.in-Ok.ensures.ok.0 c.in-Ok.ensures.ok.1

pub returns-in_default : goal.returns-in_default
returns-in_default c = json_none c.args.line.now (c.in-Err.ensures.err
    (λ m. c.in_default.not-Memory (c.classify.ensures.memory.1 m)))
