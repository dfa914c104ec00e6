use Rattle.chr_columns.proofs.groups.add_groups.Goals as goal

pub returns-in_err-add_group-clause-no_plans : goal.returns-in_err-add_group-clause-no_plans
returns-in_err-add_group-clause-no_plans c none = c.add_group.ensures.no_plans (c.loop-place.invariant.no_plans none)
