use Rattle.std.proofs.Common.{◌≡◌, ◌++◌, map, take}
use Rattle.chr_overlaps.specs.working.Tables.{class_in, class_comparison}
use Rattle.chr_overlaps.proofs.unify.push_guard.Given as goal

abbrev pub invariant-loop-comparison : goal.invariant-loop-comparison
invariant-loop-comparison l = l.guards.items ≡ l.initial.guards.items
    ++ map (class_comparison (class_in l.classes.terms.items) l.shift) (take l.comparison-index l.comparison-items)
