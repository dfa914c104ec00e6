-- What the law of lists of values says.
use Rattle.std.specs.Prelude.{◌≡◌, ℕ, ◌≤◌, ℤ, List, [], ◌∷◌, length}
use Rattle.chr_types.specs.OrderTypes.{In}
use Rattle.chr_types.specs.Representatives.{AreTypes}
use Rattle.chr_confluence.specs.Sorts.{Sorts, ordered, equal, free}
use Rattle.chr_confluence.specs.SortLists.{values_at, Cover, CoverAt, AreNew, AreBlocks, sort_count}

-- at a free sort one list of different values that are no constants covers
abbrev pub NewValuesCover : Type 0
NewValuesCover = (cs us : List ℤ) → AreNew cs us → CoverAt free cs (length us) (us ∷ [])

-- at an equal sort the lists cover that are made block by block, of the constants and of as many new numbers as there
-- are values
abbrev pub BlocksCover : Type 0
BlocksCover =
    (cs ns : List ℤ) (n : ℕ) (rs : List (List ℤ)) → AreNew cs ns → n ≤ length ns
    → ((zs : List ℤ) → length zs ≡ n → AreBlocks cs [] ns zs → In zs rs) → CoverAt equal cs n rs

-- at an ordered sort the representatives of the order types cover
abbrev pub OrderTypesCover : Type 0
OrderTypesCover = (cs : List ℤ) (n : ℕ) (rs : List (List ℤ)) → AreTypes n cs rs → CoverAt ordered cs n rs

-- all combinations of lists that cover, one for each sort, cover all sorts
abbrev pub CombinationsCover : Type 0
CombinationsCover =
    (o : Sorts) (ks : List ℕ) (lists : ℕ → List (List ℤ)) (rs : List (List ℤ))
    → ((k : ℕ) → CoverAt (o.kind k) (o.constants k) (sort_count k ks) (lists k))
    → ((us : List ℤ) → length us ≡ length ks → ((k : ℕ) → In (values_at k ks us) (lists k)) → In us rs)
    → Cover o ks rs
