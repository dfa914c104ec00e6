-- The values that a rule's variables get while its heads are matched with atoms.
use Rattle.std.specs.Prelude.{◌≡◌, ℕ, ℤ, pos, ◌+◌, ◌<◌, ◌↔◌, Bool, false, List, length, get_or, nat_lt, Some}
use Rattle.chr_base.specs.declared.term.Term.{Term}
use Rattle.chr_base.specs.declared.term.Term.TheVariants.{Variable, Constant}
use Rattle.chr_base.specs.RuleTests.{numbered}
use Rattle.chr_base.specs.Rules.{Valuation}

-- the term is a variable past the first n
abbrev pub is_new : ℕ → Term → Bool
is_new n (Variable x) = nat_lt n x
is_new n (Constant c) = false

-- the valuation gives the variables 1, 2, .. these values
abbrev pub Keeps : List ℤ → Valuation → Type 0
Keeps vs w = (x : ℕ) → x < length vs → w (x + 1) ≡ get_or vs x (pos 0)

-- ws has a value for each variable of vs and of the terms, and a valuation has these values just where it has those of
-- vs
-- and makes Q hold
pub record Binds (vs ws : List ℤ) (ts : List Term) (Q : Valuation → Type 0) : Type 0 where
  pub counted : numbered (length vs) ts ≡ Some (length ws)
  pub keeps : (w : Valuation) → Keeps ws w ↔ (Keeps vs w × Q w)

-- Q holds under no valuation that has these values
abbrev pub Refuses : List ℤ → (Valuation → Type 0) → Type 0
Refuses vs Q = (w : Valuation) → Keeps vs w → ¬ Q w
