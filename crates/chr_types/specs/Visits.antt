-- Visits of lists of values, one after the other.
use Rattle.std.specs.Prelude.{◌≡◌, ℤ, ◌+◌, ◌<◌, ◌≤◌, Bool, true, false, ◌&&◌, ◌⊎◌, List, [], ◌∷◌, ◌++◌}
use Rattle.chr_types.specs.declared.visitors.LimitedCount.{LimitedCount}

-- each beginning of p ++ q that is longer than p is admitted
abbrev pub are_admitted : (List ℤ → Bool) → List ℤ → List ℤ → Bool
are_admitted admits p [] = true
are_admitted admits p (v ∷ q) = admits (p ++ v ∷ []) && are_admitted admits (p ++ v ∷ []) q

-- Visits of the elements, in order, lead from v to w: of all where none of them stopped, and else up to the first that
-- did.
abbrev pub Visited : {V A : Type 0} → (V → A → Bool → V → Type 0) → V → List A → Bool → V → Type 0
Visited visit v [] stopped w = (stopped ≡ false) × (v ≡ w)
Visited {V} visit v (x ∷ xs) stopped w =
    ((stopped ≡ true) × visit v x true w) ⊎ ((u : V) × visit v x false u × Visited visit u xs stopped w)

-- A visit counts one more, unless the limit is reached.
pub record CountsOne (v : LimitedCount) (stops : Bool) (w : LimitedCount) : Type 0 where
  pub full : stops ≡ true → v.limit ≤ v.found
  pub more : stops ≡ false → (w.found ≡ v.found + 1) × (w.limit ≡ v.limit) × (v.found < v.limit)
