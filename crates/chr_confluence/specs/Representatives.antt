-- The representatives of an overlap: values of the variables that unification leaves free, and the valuations that
-- these make.
use Rattle.std.specs.Prelude.{ℕ, ℤ, pos, ◌+◌, Bool, ◌&&◌, nat_eq, List, [], ◌∷◌, length}
use Rattle.std.specs.List.{filter, range_with_len}
use Rattle.chr_base.specs.declared.rule.Rule.{Rule}
use Rattle.chr_base.specs.RuleTests.{is_variable}
use Rattle.chr_base.specs.Rules.{Valuation, term_value, guard_holds}
use Rattle.chr_types.specs.Representatives.{AreTypes}
use Rattle.chr_confluence.specs.Unifiers.{Substitution}
use Rattle.chr_confluence.specs.Overlaps.{variables_of}
use Rattle.chr_confluence.specs.Constants.{AreConstants}
use Rattle.std.specs.Prelude.{if◌then◌else◌}

-- the variables of both rules that the substitution leaves free, in the order of first occurrence, by which they are
-- numbered
abbrev pub free_variables : Substitution → Rule → Rule → List ℕ
free_variables σ r1 r2 = filter (λ x. is_variable x (σ x)) (range_with_len 1 (variables_of r1 + variables_of r2))

-- the valuation that gives each variable of the first list the value at its place, and every other variable 0
abbrev pub assignment : List ℕ → List ℤ → Valuation
assignment (f ∷ fs) (z ∷ zs) x = if nat_eq x f then z else assignment fs zs x
assignment [] zs x = pos 0
assignment (f ∷ fs) [] x = pos 0

-- the instance of the substitution at these values of the variables fs
abbrev pub instance_at : Substitution → List ℕ → List ℤ → Valuation
instance_at σ fs zs x = term_value (assignment fs zs) (σ x)

-- the values at a representative of the variables of the first rule, and of those of the second
abbrev pub left_at : Substitution → Rule → Rule → List ℤ → Valuation
left_at σ r1 r2 zs = instance_at σ (free_variables σ r1 r2) zs

abbrev pub right_at : Substitution → Rule → Rule → List ℤ → Valuation
right_at σ r1 r2 zs x = instance_at σ (free_variables σ r1 r2) zs (variables_of r1 + x)

-- whether both guards hold at a representative
abbrev pub guards_hold : Substitution → Rule → Rule → List ℤ → Bool
guards_hold σ r1 r2 zs =
    guard_holds (left_at σ r1 r2 zs) r1.guard.items && guard_holds (right_at σ r1 r2 zs) r2.guard.items

-- rs are the representatives of the order types of the free variables, in order
abbrev pub AreRepresentatives : List Rule → Rule → Rule → Substitution → List (List ℤ) → Type 0
AreRepresentatives rules r1 r2 σ rs =
    (cs : List ℤ) × AreConstants rules cs × AreTypes (length (free_variables σ r1 r2)) cs rs
