use Rattle.std.proofs.Common.{◌∙◌}
use Rattle.chr_workers.proofs.Kept.{settled_by}
use Rattle.chr_workers.proofs.resting.rest_all.Goals as goal

pub returns-clause-settled : goal.returns-clause-settled
returns-clause-settled g c =
    let t = c.in_ok-rest_shared.ensures in
    let r = c.rest.ensures in
    settled_by c.args.board.now c.rest_shared.new.board c.rest.new.board c.rest.result t.kept.program
    (r.out ∙ t.out) r.rests
