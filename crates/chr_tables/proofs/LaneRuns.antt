-- Runs of rows of which none passes.
use Rattle.std.proofs.Common.{◌≡◌, ℕ, ℤ, List, Option, Some, None, IfSome, IfNone, Bool, true, false, is_some, inl, inr}
use Rattle.std.proofs.lemmas.Bool.{cases_lt}
use Rattle.chr_tables.specs.declared.lanes.test.Test.{Test}
use Rattle.chr_tables.specs.LaneRows.{all_hold, NonePasses}

module _ (columns : List (List ℤ)) (tests : List Test) (from at : ℕ) (before : NonePasses columns tests from at) where
  pub joined : (to : ℕ) → NonePasses columns tests at to → NonePasses columns tests from to
  joined to after row l h = elim (cases_lt row at) as (λ _. all_hold columns tests row ≡ false) [
    | inl g ↦ before row l g
    | inr g ↦ after row g h
  ]

  pub least_joined : (found : Option ℕ) → IfSome found (NonePasses columns tests at)
      → IfSome found (NonePasses columns tests from)
  least_joined None h = h
  least_joined (Some row) h = joined row h

  pub none_joined : (found : Option ℕ) (to : ℕ) → IfNone found (NonePasses columns tests at to)
      → IfNone found (NonePasses columns tests from to)
  none_joined None to h = joined to h
  none_joined (Some row) to h = h

-- where nothing was found, none passes
pub not_found : {A : Type 0} (found : Option ℕ) → is_some found ≡ false → IfNone found A → A
not_found None e h = h
not_found (Some row) e h = absurd (let f : ◌≡◌ {A = Bool} true false = e in cc)
