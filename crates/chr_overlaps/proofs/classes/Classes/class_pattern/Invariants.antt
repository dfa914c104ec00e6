use Rattle.std.proofs.Common.{◌≡◌, map, take}
use Rattle.chr_overlaps.specs.working.Tables.{class_in, class_term}
use Rattle.chr_overlaps.proofs.classes.Classes.class_pattern.Given as goal

abbrev pub invariant-loop-term : goal.invariant-loop-term
invariant-loop-term l = l.args.items ≡ map (class_term (class_in l.self.terms.items) l.shift)
    (take l.term-index l.term-items)
