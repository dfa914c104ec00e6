use Rattle.std.proofs.Common.{◌≡◌, map, take}
use Rattle.chr_confluence.specs.working.Solving.{put_term}
use Rattle.chr_overlaps.proofs.classes.Classes.put.Given as goal

abbrev pub invariant-loop-class : goal.invariant-loop-class
invariant-loop-class l = l.terms.items ≡ map (put_term l.variable l.term) (take l.class-index l.class-items)
