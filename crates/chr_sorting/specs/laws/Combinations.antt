-- What the law of combinations says.
use Rattle.std.specs.Prelude.{◌≡◌, ℕ, ℤ, List}
use Rattle.chr_types.specs.OrderTypes.{In, Rises, AreValues}
use Rattle.chr_confluence.specs.Sorts.{Sorts}
use Rattle.chr_confluence.specs.SortLists.{Cover}
use Rattle.chr_sorting.specs.SortedCaseLists.{AreCombinations}

-- all combinations stand for all lists of 64-bit values
abbrev pub CombinationsStandForAll : Type 0
CombinationsStandForAll =
    (s : Sorts) (ks : List ℕ) (rs : List (List ℤ)) → AreCombinations s ks rs → Cover s ks rs

-- the values of combinations are 64-bit values, where the constants of the sorts are
abbrev pub CombinationsAreValues : Type 0
CombinationsAreValues =
    (s : Sorts) (ks : List ℕ) (rs : List (List ℤ)) → ((k : ℕ) → AreValues (s.constants k)) → AreCombinations s ks rs
    → (zs : List ℤ) → In zs rs → AreValues zs

-- the combinations have one list
abbrev pub CombinationsAreOne : Type 0
CombinationsAreOne =
    (s : Sorts) (ks : List ℕ) (rs ts : List (List ℤ)) → ((k : ℕ) → Rises (s.constants k)) → AreCombinations s ks rs
    → AreCombinations s ks ts → rs ≡ ts
