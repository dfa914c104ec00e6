use Rattle.std.proofs.Common.{rules, ◌≡◌, ◌∙◌, ap}
use Rattle.std.specs.FinMap as map
use Rattle.chr_replica.proofs.LeasedSums.{not_out, without_again}
use Rattle.chr_replica.proofs.Outcomes.{on_err, on_false}
use Rattle.chr_replica.proofs.board.telling.join_leased.Goals as goal

pub returns-in-Err-clause-same_out : goal.returns-in-Err-clause-same_out
returns-in-Err-clause-same_out c =
    let put : c.insert.new.self ≡ map.insert c.args.out.now c.args.next c.args.part = search rules in
    on_false c.untold.result (c.remove.ensures ∙ ap (λ l. map.remove l c.args.next) put
    ∙ without_again c.args.out.now c.args.next c.args.part (not_out c.args.out.now c.args.next c.requires))

pub returns-in-Err-clause-err_out : goal.returns-in-Err-clause-err_out
returns-in-Err-clause-err_out c =
    let put : c.insert.new.self ≡ map.insert c.args.out.now c.args.next c.args.part = search rules in
    on_err c.untold.result (c.remove.ensures ∙ ap (λ l. map.remove l c.args.next) put
    ∙ without_again c.args.out.now c.args.next c.args.part (not_out c.args.out.now c.args.next c.requires))
