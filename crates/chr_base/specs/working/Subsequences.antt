-- A list that stands within another in its order, and what is left when it is taken out.
use Rattle.std.specs.Prelude.{Bool, true, false, if◌then◌else◌, List, [], ◌∷◌}
use Rattle.std.specs.declared.cmp.Ordering.{Ordering}
use Rattle.std.specs.Ordering.{eq_by_cmp}

module _ {K : Type 0} (R : K → K → Ordering) where
  -- ys stands within xs, in its order
  abbrev pub is_subsequence : List K → List K → Bool
  is_subsequence [] [] = true
  is_subsequence [] (y ∷ ys) = false
  is_subsequence (x ∷ xs) [] = is_subsequence xs []
  is_subsequence (x ∷ xs) (y ∷ ys) = if eq_by_cmp R y x then is_subsequence xs ys else is_subsequence xs (y ∷ ys)

  -- xs without ys, each item of it taken out where it first stands after those before it
  abbrev pub without_subsequence : List K → List K → List K
  without_subsequence [] ys = []
  without_subsequence (x ∷ xs) [] = x ∷ without_subsequence xs []
  without_subsequence (x ∷ xs) (y ∷ ys) =
      if eq_by_cmp R y x then without_subsequence xs ys else x ∷ without_subsequence xs (y ∷ ys)
