use Rattle.std.proofs.Common.{◌≡◌, ◌++◌, map, take}
use Rattle.chr_overlaps.specs.working.Tables.{class_in, class_pattern}
use Rattle.chr_overlaps.proofs.equal_sides.push_classes.Given as goal

abbrev pub invariant-loop-pattern : goal.invariant-loop-pattern
invariant-loop-pattern l = l.changes.items ≡ l.initial.changes.items
    ++ map (class_pattern (class_in l.classes.terms.items) l.shift) (take l.pattern-index l.patterns)
