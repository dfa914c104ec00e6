-- The lines of overlaps that are refused.
use Rattle.std.specs.Prelude.{ℕ, List, ◌++◌, codes}
use Rattle.std.specs.List.{join_by}
use Rattle.std.specs.Fmt.{decimal}
use Rattle.chr_base.specs.ProgramTests.{Declaration}
use Rattle.chr_base.specs.Texts.{store_text}
use Rattle.chr_overlaps.specs.declared.overlap.Overlap.{Overlap}
use Rattle.chr_join.specs.declared.refused.Failure.{Failure}
use Rattle.chr_join.specs.declared.refused.TooManyTypes.{TooManyTypes}

-- a matching's entries, joined by commas, in parentheses
abbrev pub matching_text : List ℕ → List ℕ
matching_text ns = codes "(" ++ join_by decimal (codes ",") ns ++ codes ")"

abbrev pub overlap_text : Overlap → List ℕ
overlap_text o =
    codes "rules " ++ decimal o.first ++ codes " " ++ decimal o.second
    ++ codes "; matching " ++ matching_text o.matching.items

-- a failing case: its store, and the two stores in which its sides end
abbrev pub failure_text : List Declaration → Failure → List ℕ
failure_text ds f =
    codes "refused 21: " ++ overlap_text f.overlap ++ codes "; store " ++ store_text ds f.left.start
    ++ codes "; left " ++ store_text ds f.left_end ++ codes "; right " ++ store_text ds f.right_end

-- an overlap with too many order types, and the number of its free classes
abbrev pub too_many_text : TooManyTypes → List ℕ
too_many_text t = codes "refused 22: " ++ overlap_text t.overlap ++ codes "; classes " ++ decimal t.classes
