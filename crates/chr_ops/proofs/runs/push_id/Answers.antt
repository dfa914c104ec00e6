use Rattle.std.proofs.Common.{rules, ap, sym, subst, ◌∙◌, ◌≡◌, ◌-◌, ◌<◌, ◌≤◌, ◌||◌, length, get_or, vec_len}
use Rattle.std.specs.Ordering.{eq_by_cmp}
use Rattle.chr_ops.specs.Ids.{id_cmp}
use Rattle.chr_ops.specs.Summaries.{in_range}
use Rattle.chr_ops.proofs.RunSteps.{one_gains, one_further}
use Rattle.chr_ops.proofs.runs.push_id.Goals as goal

pub returns-then-ends_right_before-clause-covers : goal.returns-then-ends_right_before-clause-covers
returns-then-ends_right_before-clause-covers c = λ q.
    let runs = c.args.runs.now.items in
    let run = c.in-Some.run'.now in
    let id = c.args.id in
    let i = vec_len c.args.runs.now - 1 in
    let there : i < length runs = search rules in
    let last : run ≡ get_or runs i run = search rules in
    let range = subst (λ r. r.lo ≤ r.hi) (sym last) (c.requires i run there) in
    let follows = c.ends_right_before.ensures.0 c.if-ends_right_before.true in
    one_gains runs i run record { origin = run.origin; lo = run.lo; hi = id.number } q (eq_by_cmp id_cmp q id) there
    (one_further run id q range follows.0 follows.1 ∙ ap (λ r. in_range r q || eq_by_cmp id_cmp q id) last)
