use Rattle.std.proofs.Common.{map, sym, ap, ◌∙◌}
use Rattle.std.specs.Prelude.{option_map}
use Rattle.chr_json.specs.Reads.{raw_op_view}
use Rattle.chr_answers.proofs.Requests.{asks_merge, refuses_merge}
use Rattle.chr_answers.proofs.request.merge_request.Goals as goal

pub returns-in-Some : goal.returns-in-Some
returns-in-Some c =
    asks_merge c.args.program.now c.args.replica (map raw_op_view c.args.raws.now) c.in-Some.ops
    (ap (option_map (λ v. v.items)) (sym c.in-Some.is) ∙ c.in_ok-ops.ensures)

pub returns-in-None : goal.returns-in-None
returns-in-None c =
    refuses_merge c.args.program.now c.args.replica (map raw_op_view c.args.raws.now)
    (ap (option_map (λ v. v.items)) (sym c.in-None.is) ∙ c.in_ok-ops.ensures)
