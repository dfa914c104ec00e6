use Rattle.std.specs.Prelude.{string_bytes}
use Rattle.std.specs.List.{flat_map}
use Rattle.chr_base.specs.Programs.{declarations}
use Rattle.chr_base.proofs.InRuns.{after, one_piece}
use Rattle.chr_base.proofs.text.push_more_runs.Goals as goal

pub loop-run-preserved : goal.loop-run-preserved
loop-run-preserved c =
    one_piece (λ r. flat_map (after (declarations c.args.program.now)) r.now) c.args.runs.now c.loop-run.run-index
    c.run-item.result (string_bytes c.loop-run.out) _ _ c.loop-run-test.true c.run-item.is c.loop-run.invariant
    c.in_ok-push_more_atoms.ensures
