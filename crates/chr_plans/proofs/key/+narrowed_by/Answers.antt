use Rattle.chr_plans.specs.Keys.{allows}
use Rattle.chr_plans.proofs.Values.{first_and_rest}
use Rattle.chr_plans.proofs.key.+narrowed_by.Goals as goal

pub returns : goal.returns
returns t c = λ a i all.
    let w = first_and_rest (allows c.args.heads.now a) c.args.limits.now _ c.in-len1-up.len_at_least all in
    c.narrowed_by.ensures a (c.narrowed_at-range.ensures a i w.0) w.1
