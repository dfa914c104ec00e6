-- A case that was met among the cases of an overlap.
use Rattle.std.specs.Prelude.{◌≡◌, ℕ, ◌+◌, ◌<◌, List, length, take, drop, get_or}
use Rattle.std.proofs.Common.{sym, subst}
use Rattle.chr_base.specs.declared.rule.Rule.{Rule}
use Rattle.chr_overlaps.specs.declared.cases.Case.{Case}
use Rattle.chr_overlaps.specs.declared.overlap.Overlap.{Overlap}
use Rattle.chr_overlaps.specs.CaseLists.{AreCases}
use Rattle.chr_join.proofs.Lists.{split_at}
use Rattle.chr_join.specs.declared.refused.Failure.{Failure}
use Rattle.chr_diagnosis.specs.Diagnoses.{IsFailureAt, IsFailureOf}

-- it is one of them
pub found_among : (rules : List Rule) (o : Overlap) (cases : List Case) (k : ℕ) (x : Case) (f : Failure)
    → AreCases rules o cases
    → k < length cases → x ≡ get_or cases k x → IsFailureAt rules o x f → IsFailureOf rules o f
found_among rules o cases k x f are l e at =
    (take k cases, x, drop (k + 1) cases, subst (AreCases rules o) (sym (split_at cases k x l e)) are, at)
