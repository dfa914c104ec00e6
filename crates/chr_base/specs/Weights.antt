-- Weights, which are pairs of numbers.
use Rattle.std.specs.Prelude.{◌≡◌, ℕ, ◌+◌, ◌*◌, ◌<◌, ◌⊎◌, Bool, true, false, not, ◌&&◌, nat_eq, nat_le, List, ◌++◌}
use Rattle.std.specs.Prelude.{codes, decimal}
use Rattle.chr_base.specs.declared.atom.Atom.{Atom}
use Rattle.chr_base.specs.declared.limits.TheConstants.{MAX_BODY, MAX_WEIGHT}
use Rattle.chr_base.specs.declared.weight.Weight.{Weight}
use Rattle.chr_base.specs.FinBag.{total}

-- the first weight is less: by the first numbers or, where these are equal, by the second
abbrev pub IsLighter : Weight → Weight → Type 0
IsLighter v w = (v.first < w.first) ⊎ ((v.first ≡ w.first) × (v.second < w.second))

-- the sum of two weights, number by number
abbrev pub sum : Weight → Weight → Weight
sum v w = record { first = v.first + w.first; second = v.second + w.second }

-- the weight of what isn't declared, and of the empty store
abbrev pub no_weight : Weight
no_weight = record { first = 0; second = 0 }

-- the weight of a symbol for which none is declared
abbrev pub default_weight : Weight
default_weight = record { first = 1; second = 0 }

-- what the weight of a symbol may be: each number is at most MAX_WEIGHT, and not both are 0
abbrev pub is_weight : Weight → Bool
is_weight w = nat_le w.first MAX_WEIGHT && nat_le w.second MAX_WEIGHT && not (nat_eq w.first 0 && nat_eq w.second 0)

-- the weights of these atoms summed
abbrev pub total_weight : (Atom → Weight) → List Atom → Weight
total_weight w xs = record { first = total (λ a. (w a).first) xs; second = total (λ a. (w a).second) xs }

-- whether the second number isn't 0
abbrev pub is_paired : Weight → Bool
is_paired w = not (nat_eq w.second 0)

-- both numbers with a comma between them, or the first alone
abbrev pub weight_text : Bool → Weight → List ℕ
weight_text true w = decimal w.first ++ codes "," ++ decimal w.second
weight_text false w = decimal w.first

-- A weight as one number: 8,000,001 times the first number, and the second. Where a rule's body is lighter than its
-- removed heads, this number is less, too, since the second numbers of a body sum to at most MAX_BODY * MAX_WEIGHT.
abbrev pub rank : Weight → ℕ
rank w = (MAX_BODY * MAX_WEIGHT + 1) * w.first + w.second
