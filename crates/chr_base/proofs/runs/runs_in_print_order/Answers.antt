use Rattle.std.proofs.lemmas.List.Sorted.{All-permutation}
use Rattle.chr_base.specs.Programs.{declarations}
use Rattle.chr_base.specs.working.Runs.{IsRun}
use Rattle.chr_base.proofs.InRuns.{runs_in_order}
use Rattle.chr_base.proofs.runs.runs_in_print_order.Goals as goal

pub returns-then-are_apart-clause-order : goal.returns-then-are_apart-clause-order
returns-then-are_apart-clause-order c =
    runs_in_order (declarations c.args.program.now) c.args.atoms.now c.in_ok-runs.runs.items
    c.sort_unstable_by.new.self.items c.in_ok-runs.ensures.whole c.in_ok-runs.ensures.runs
    c.sort_unstable_by.ensures.permutation (rw c.deref.ensures.value at (c.if-are_apart.ensures))

pub returns-then-are_apart-clause-runs : goal.returns-then-are_apart-clause-runs
returns-then-are_apart-clause-runs c =
    All-permutation (λ r. IsRun r.now) c.in_ok-runs.runs.items c.sort_unstable_by.new.self.items
    c.sort_unstable_by.ensures.permutation c.in_ok-runs.ensures.runs
