-- What the law of lists at one sort says.
use Rattle.std.specs.Prelude.{◌≡◌, ℕ, ℤ, ◌+◌, ◌^◌, ◌≤◌, List, length}
use Rattle.chr_types.specs.OrderTypes.{Rises, AreValues}
use Rattle.chr_confluence.specs.Sorts.{Kind}
use Rattle.chr_sorting.specs.SortedCaseLists.{AreListsAt}

-- there is a list of all lists of n values, where there are 64-bit values for them and the constants
abbrev pub ListsExist : Type 0
ListsExist =
    (kind : Kind) (cs : List ℤ) (n : ℕ) → length cs + n ≤ 2 ^ 62 → Rises cs → AreValues cs
    → (ls : List (List ℤ)) × AreListsAt kind cs n ls

-- there is only one list of all lists of n values
abbrev pub ListsAreOne : Type 0
ListsAreOne =
    (kind : Kind) (cs : List ℤ) (n : ℕ) (ls ms : List (List ℤ)) → Rises cs → AreListsAt kind cs n ls
    → AreListsAt kind cs n ms → ls ≡ ms
