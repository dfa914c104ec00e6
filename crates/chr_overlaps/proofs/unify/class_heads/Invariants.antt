use Rattle.std.proofs.Common.{◌≡◌, map, take}
use Rattle.chr_base.specs.Rules.{heads_of}
use Rattle.chr_overlaps.specs.working.Tables.{class_in, class_pattern}
use Rattle.chr_overlaps.proofs.unify.class_heads.Given as goal

abbrev pub invariant-loop-place : goal.invariant-loop-place
invariant-loop-place l = l.heads.items ≡ map (class_pattern (class_in l.classes.terms.items) l.shift)
    (take l.place (heads_of l.rule))
