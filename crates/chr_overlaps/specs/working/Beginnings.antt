-- Guards at a beginning of the values of the classes.
use Rattle.std.specs.Prelude.{ℕ, ℤ, Bool, true, false, ◌&&◌, ◌||◌, nat_eq, if◌then◌else◌, List, [], ◌∷◌}
use Rattle.std.specs.List.{list_all}
use Rattle.chr_base.specs.declared.term.Term.{Term}
use Rattle.chr_base.specs.declared.term.Term.TheVariants.{Variable, Constant}
use Rattle.chr_base.specs.declared.term.Comparison.{Comparison}
use Rattle.chr_base.specs.Rules.{comparison_holds}
use Rattle.chr_confluence.specs.Representatives.{assignment}

-- the variable is one of the first classes, those that have values
abbrev pub has_place : List ℕ → List ℤ → ℕ → Bool
has_place (f ∷ fs) (z ∷ zs) x = nat_eq x f || has_place fs zs x
has_place [] zs x = false
has_place (f ∷ fs) [] x = false

abbrev pub is_known : List ℕ → List ℤ → Term → Bool
is_known fs zs (Variable x) = has_place fs zs x
is_known fs zs (Constant c) = true

-- the comparison holds, unless a value of it is not known yet
abbrev pub may_hold : List ℕ → List ℤ → Comparison → Bool
may_hold fs zs c =
    if is_known fs zs c.left && is_known fs zs c.right then comparison_holds (assignment fs zs) c else true

-- no comparison fails whose values are known
abbrev pub all_may_hold : List ℕ → List Comparison → List ℤ → Bool
all_may_hold fs cs zs = list_all (may_hold fs zs) cs
