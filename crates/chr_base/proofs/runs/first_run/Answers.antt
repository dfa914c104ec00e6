use Rattle.chr_base.proofs.InRuns.{run_in_front, rest_rises}
use Rattle.chr_base.proofs.runs.first_run.Goals as goal

pub returns-clause-run : goal.returns-clause-run
returns-clause-run c =
    run_in_front c.args.atoms.now c.split_at.result.0.now c.split_at.result.1.now c.run_len.result
    (c.split_at.ensures.by_index.0) c.split_at.ensures.front_len c.run_len.ensures.some c.requires.rising
    c.run_len.ensures.alike

pub returns-clause-rising : goal.returns-clause-rising
returns-clause-rising c = rest_rises c.args.atoms.now c.split_at.result.0.now _
    (c.split_at.ensures.by_index.0) c.requires.rising
