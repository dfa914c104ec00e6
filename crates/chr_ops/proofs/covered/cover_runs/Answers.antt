use Rattle.std.proofs.Common.{ap, ◌∙◌, ◌||◌, take, get_or}
use Rattle.chr_ops.specs.Summaries.{covers}
use Rattle.chr_ops.specs.declared.range.IdRange.{IdRange}
use Rattle.chr_ops.specs.working.Walks.{first_id}
use Rattle.chr_ops.proofs.RunsCovered.{first_among}
use Rattle.chr_ops.proofs.covered.cover_runs.Goals as goal

pub cover_run-requires-clause-first : goal.cover_run-requires-clause-first
cover_run-requires-clause-first c =
    let runs = c.args.runs.now in
    let i = c.loop-run.run-index in
    let blank : IdRange = record { origin = 0; lo = 0; hi = 0 } in
    let id = first_id (get_or runs i blank) in
    c.loop-run.invariant.covering id
    ∙ ap (λ b. b || covers (take i runs) id) (c.requires.firsts id (first_among runs i blank c.loop-run-test.true))
