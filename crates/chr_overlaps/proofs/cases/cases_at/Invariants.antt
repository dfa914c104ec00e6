use Rattle.std.proofs.Common.{◌≡◌, map, take}
use Rattle.std.specs.List.{filter}
use Rattle.chr_confluence.specs.Representatives.{guards_hold}
use Rattle.chr_overlaps.specs.CaseLists.{case_at}
use Rattle.chr_overlaps.specs.working.Unifiers.{classes_of}
use Rattle.chr_overlaps.proofs.cases.cases_at.Given as goal

abbrev pub invariant-loop-one : goal.invariant-loop-one
invariant-loop-one l = l.cases.items ≡ map (case_at l.overlap l.first l.second (classes_of l.unified))
    (filter (guards_hold (classes_of l.unified) l.first l.second) (take l.one-index l.representatives))
