-- How far the choice of a partner has come.
use Rattle.std.specs.Prelude.{◌≡◌, ℕ, ◌<◌, ◌≤◌, ◌⊎◌, List, [], ◌∷◌, length, Option, Some, None, true, ⊤}
use Rattle.chr_base.specs.declared.rule.Rule.{Rule}
use Rattle.chr_base.specs.Rules.{heads_of}
use Rattle.chr_plans.specs.declared.plan.Partner.{Partner}
use Rattle.chr_plans.specs.Planning.{is_in, IsLongest}

-- these are head places of the rule
abbrev pub ArePlaces : Rule → List ℕ → Type 0
ArePlaces r [] = ⊤
ArePlaces r (q ∷ known) = (q < length (heads_of r)) × ArePlaces r known

-- the choice among the first n places: a longest one, or none where all are known
abbrev pub IsChoice : Rule → List ℕ → ℕ → Option Partner → Type 0
IsChoice r known n None = (q : ℕ) → q < n → is_in q known ≡ true
IsChoice r known n (Some l) = IsLongest r known n l

-- of the best so far and the next, where there are both, one whose key is not shorter
abbrev pub IsLonger : Option Partner → Partner → Partner → Type 0
IsLonger None next l = l ≡ next
IsLonger (Some best) next l =
    ((l ≡ next) × (length best.key.items ≤ length next.key.items))
    ⊎ ((l ≡ best) × (length next.key.items ≤ length best.key.items))
