use Rattle.std.proofs.Common.{rules, ap, ◌∙◌, subst, IfOk, ◌≡◌}
use Rattle.std.specs.FinMap as map
use Rattle.chr_ops.specs.working.Walks.{covered}
use Rattle.chr_ops.proofs.CoveredLists.{covered_lacking}
use Rattle.chr_ops.proofs.lacking.lacked.Goals as goal

pub returns : goal.returns
returns c =
    let held = c.args.held.now in
    let parts = c.in_ok-lacked.lacked.items in
    let lent : c.deref.result.now ≡ parts = search rules in
    let all = covered_lacking held c.args.ranges.now c.args.others.now parts c.requires.covers
    c.in_ok-lacked.ensures.covers in
    subst (λ os. IfOk c.covered_in.result (λ ops. ops.items ≡ os)) (ap (λ rs. covered rs (map.entries held)) lent ∙ all)
    c.covered_in.ensures
