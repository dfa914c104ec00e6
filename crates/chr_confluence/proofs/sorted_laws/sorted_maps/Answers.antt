use Rattle.chr_confluence.proofs.SortMoves.{sorts_stay, sorted_steps, sorted_runs, sorted_joins}
use Rattle.chr_confluence.proofs.sorted_laws.sorted_maps.Goals as goal

pub returns-clause-values : goal.returns-clause-values
returns-clause-values c = sorts_stay

pub returns-clause-steps : goal.returns-clause-steps
returns-clause-steps c = sorted_steps

pub returns-clause-runs : goal.returns-clause-runs
returns-clause-runs c = sorted_runs

pub returns-clause-joins : goal.returns-clause-joins
returns-clause-joins c = sorted_joins
