-- How the combinations are met: class by class, each with the values with which a list of its sort can go on.
use Rattle.std.specs.Prelude.{◌≡◌, ℕ, ℤ, ◌+◌, ◌^◌, ◌≤◌, if◌then◌else◌, nat_eq, List, [], ◌∷◌, ◌++◌, map, length}
use Rattle.std.specs.List.{flat_map}
use Rattle.std.specs.Ordering.{int_eq}
use Rattle.chr_types.specs.working.Search.{others}
use Rattle.chr_types.specs.OrderTypes.{In, AreValues}
use Rattle.chr_confluence.specs.Sorts.{Sorts, ordered}
use Rattle.chr_confluence.specs.SortLists.{sort_count}
use Rattle.chr_sorting.specs.SortedCaseLists.{AreListsAt, MoreListsThan}
use Rattle.chr_sorting.specs.declared.weave.SortLists.{SortLists}

-- the first values of these lists
abbrev pub firsts : List (List ℤ) → List ℤ
firsts [] = []
firsts ([] ∷ ls) = firsts ls
firsts ((z ∷ zs) ∷ ls) = z ∷ firsts ls

-- each of these values once, where it stands first
abbrev pub each_once : List ℤ → List ℤ
each_once [] = []
each_once (z ∷ zs) = z ∷ others z (each_once zs)

-- what follows this value in the lists that begin with it
abbrev pub tails : ℤ → List (List ℤ) → List (List ℤ)
tails z [] = []
tails z ([] ∷ ls) = tails z ls
tails z ((y ∷ ys) ∷ ls) = if int_eq y z then ys ∷ tails z ls else tails z ls

-- the lists of each sort, once those of the sort k have begun with z
abbrev pub begun : ℕ → ℤ → (ℕ → List (List ℤ)) → ℕ → List (List ℤ)
begun k z lists j = if nat_eq k j then tails z (lists k) else lists j

-- behind p: all ways to weave one list of each sort, where ks are the sorts of the values to come
abbrev pub woven : List ℕ → (ℕ → List (List ℤ)) → List ℤ → List (List ℤ)
woven [] lists p = p ∷ []
woven (k ∷ ks) lists p = flat_map (λ z. woven ks (begun k z lists) (p ++ z ∷ [])) (each_once (firsts (lists k)))

-- ---- lists as they are held

-- the lists of a sort: those that are held last
abbrev pub held_or : List (List ℤ) → List SortLists → ℕ → List (List ℤ)
held_or ls [] k = ls
held_or ls (h ∷ hs) k = held_or (if nat_eq h.sort k then map (λ l. l.items) h.lists.items else ls) hs k

abbrev pub held : List SortLists → ℕ → List (List ℤ)
held hs k = held_or [] hs k

-- ---- the lists of all sorts

-- all lists of each of the sorts js, where ks are the sorts of all values
abbrev pub AreListsOf : Sorts → List ℕ → List ℕ → (ℕ → List (List ℤ)) → Type 0
AreListsOf s js ks lists = (k : ℕ) → In k js → AreListsAt (s.kind k) (s.constants k) (sort_count k ks) (lists k)

-- one of the sorts has more lists than the limit
abbrev pub HasMoreLists : ℕ → Sorts → List ℕ → Type 0
HasMoreLists limit s ks = (k : ℕ) × In k ks × MoreListsThan limit (s.kind k) (s.constants k) (sort_count k ks)

-- the constants of the sorts js are 64-bit values, and there are fewer of them and of n others than such values
abbrev pub LeaveRoom : Sorts → ℕ → List ℕ → Type 0
LeaveRoom s n js = (k : ℕ) → In k js → AreValues (s.constants k) × (length (s.constants k) + n ≤ 2 ^ 62)

-- all of the sorts ks are k, and it is ordered
pub record IsOnlyOrdered (s : Sorts) (ks : List ℕ) (k : ℕ) : Type 0 where
  pub there : In k ks
  pub all : (j : ℕ) → In j ks → j ≡ k
  pub kind : s.kind k ≡ ordered
