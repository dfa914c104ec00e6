use Rattle.std.proofs.Common.{◌≡◌, ◌++◌, drop, map}
use Rattle.std.specs.Prelude.{string_bytes}
use Rattle.chr_read.specs.CanonicalTexts.{ended_clauses, weight_clauses}
use Rattle.chr_read.specs.working.Views.{declared_view}
use Rattle.chr_read.proofs.writer.push_weights.Given as goal

abbrev pub invariant-loop-declared : goal.invariant-loop-declared
invariant-loop-declared l = string_bytes l.out ++ ended_clauses
    (weight_clauses (map declared_view (drop l.declared-index l.all))) ≡ string_bytes l.fn.out
    ++ ended_clauses (weight_clauses (map declared_view l.all))
