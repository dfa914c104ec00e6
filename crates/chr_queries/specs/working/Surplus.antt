-- What a list in order has more than another, item by item.
use Rattle.std.specs.Prelude.{List, [], ◌∷◌, if◌then◌else◌}
use Rattle.std.specs.declared.cmp.Ordering.{Ordering}
use Rattle.std.specs.Ordering.{is_gt, eq_by_cmp}

module _ {K : Type 0} (R : K → K → Ordering) where
  -- the list from the first item on that does not come before x
  abbrev pub without_before : K → List K → List K
  without_before x [] = []
  without_before x (y ∷ ys) = if is_gt (R x y) then without_before x ys else y ∷ ys

  -- x, unless the other list begins with it, and what the rest has more
  abbrev pub surplus_at : K → (List K → List K) → List K → List K
  surplus_at x more [] = x ∷ more []
  surplus_at x more (y ∷ ys) = if eq_by_cmp R y x then more ys else x ∷ more (y ∷ ys)

  -- what the first list has more than the second
  abbrev pub surplus : List K → List K → List K
  surplus [] ys = []
  surplus (x ∷ xs) ys = surplus_at x (λ zs. surplus xs zs) (without_before x ys)
