use Rattle.std.specs.Prelude.{string_bytes}
use Rattle.chr_base.specs.Programs.{declarations}
use Rattle.chr_base.proofs.InRuns.{runs_text}
use Rattle.chr_base.proofs.text.push_runs.Goals as goal

pub returns-in_ok-push_more_runs-in-Some : goal.returns-in_ok-push_more_runs-in-Some
returns-in_ok-push_more_runs-in-Some c =
    runs_text (declarations c.args.program.now) c.args.runs.now c.in-Some.first.now c.in-Some.rest.now
    (string_bytes c.args.out.now) _ _ (c.in-Some.ensures.cases.0) c.requires c.in_ok-push_atoms-in-Some.ensures
    c.in_ok-push_more_runs-in-Some.ensures
