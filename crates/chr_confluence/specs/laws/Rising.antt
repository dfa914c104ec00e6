-- What the law of maps that keep the order of values says.
use Rattle.std.specs.List.{zip}
use Rattle.std.specs.Prelude.{◌≡◌, ℕ, ℤ, Bool, true, List, map, length}
use Rattle.chr_base.specs.declared.rule.Rule.{Rule}
use Rattle.chr_base.specs.Stores.{Store}
use Rattle.chr_base.specs.Rules.{StepBy, Valuation}
use Rattle.chr_types.specs.OrderTypes.{In, AreValues}
use Rattle.chr_types.specs.Representatives.{AreTypes}
use Rattle.chr_base.specs.Values.{args_in, Each}
use Rattle.chr_confluence.specs.Rising.{KeepsOrder, FixesRule, rename, among}
use Rattle.chr_confluence.specs.Constants.{HasConstant}

-- f carries each step on a store of values in d to the step of the mapped instance
abbrev pub StepsRise : Type 0
StepsRise =
    (f : ℤ → ℤ) (d : ℤ → Bool) (r : Rule) (v : Valuation) (s t : Store) → KeepsOrder f d → FixesRule f d r
    → Each (args_in d) s → StepBy r v s t → StepBy r (λ x. f (v x)) (rename f s) (rename f t)

-- no step brings in a value that is neither in the store nor a constant of its rule
abbrev pub ValuesStay : Type 0
ValuesStay =
    (d : ℤ → Bool) (r : Rule) (v : Valuation) (s t : Store) → ((c : ℤ) → HasConstant r c → d c ≡ true)
    → Each (args_in d) s → StepBy r v s t → Each (args_in d) t

-- every list of 64-bit values is the image of its order type's representative, by a map that keeps the order of the
-- representative's values and the constants, and fixes these
abbrev pub TypesRise : Type 0
TypesRise =
    (n : ℕ) (cs : List ℤ) (rs : List (List ℤ)) → AreTypes n cs rs → (vs : List ℤ) → length vs ≡ n → AreValues vs
    → (r : List ℤ) × (f : ℤ → ℤ) × In r rs × KeepsOrder f (among (zip r vs) cs) × ((c : ℤ) → In c cs → f c ≡ c)
    × (map f r ≡ vs)
