-- The lists of blocks, value after value.
use Rattle.std.specs.Prelude.{ℕ, zero, suc, ℤ, pos, if◌then◌else◌, int_lt, List, [], ◌∷◌, ◌++◌, get_or, drop}
use Rattle.std.specs.List.{flat_map}
use Rattle.std.specs.Ordering.{int_eq}

-- the rising values with this one among them
abbrev pub inserted : ℤ → List ℤ → List ℤ
inserted v [] = v ∷ []
inserted v (k ∷ ks) = if int_lt k v then k ∷ inserted v ks else (if int_lt v k then v ∷ k ∷ ks else k ∷ ks)

-- the next of the numbers
abbrev pub next_number : List ℤ → ℤ
next_number ns = get_or ns 0 (pos 0)

-- the lists that go on with z next: one of the choices, or the next of the numbers, which is a choice from then on
abbrev pub going_on : (List ℤ → List ℤ → List ℤ → List (List ℤ)) → List ℤ → List ℤ → List ℤ → ℤ → List (List ℤ)
going_on deeper ks ns p z =
    if int_eq z (next_number ns)
    then deeper (inserted (next_number ns) ks) (drop 1 ns) (p ++ z ∷ [])
    else deeper ks ns (p ++ z ∷ [])

-- the lists that begin with p and go on with k more values, each a choice or the next of the numbers
abbrev pub lists_behind : ℕ → List ℤ → List ℤ → List ℤ → List (List ℤ)
lists_behind zero ks ns p = p ∷ []
lists_behind (suc k) ks ns p = flat_map (going_on (lists_behind k) ks ns p) (inserted (next_number ns) ks)
