-- Rows of columns, and tests of them.
use Rattle.std.specs.Prelude.{◌≡◌, ℕ, ℤ, pos, ◌<◌, ◌≤◌, Bool, false, true, List, [], get_or, map}
use Rattle.std.specs.Borrow.{Bor}
use Rattle.std.specs.List.{list_all}
use Rattle.std.specs.Ordering.{int_cmp}
use Rattle.chr_base.specs.Rules.{compares}
use Rattle.chr_base.specs.Values.{is_value}
use Rattle.chr_tables.specs.declared.lanes.test.Against.{Against}
use Rattle.chr_tables.specs.declared.lanes.test.Against.TheVariants.{Value, Column}
use Rattle.chr_tables.specs.declared.lanes.test.Test.{Test}

-- what a slice of slices stands for
abbrev pub lent_columns : List (Bor (List ℤ)) → List (List ℤ)
lent_columns columns = map (λ c. c.now) columns

-- the value of a column at a row
abbrev pub value_at : List (List ℤ) → ℕ → ℕ → ℤ
value_at columns row column = get_or (get_or columns column []) row (pos 0)

-- the value with which a test compares
abbrev pub against_at : List (List ℤ) → ℕ → Against → ℤ
against_at columns row (Value v) = v
against_at columns row (Column c) = value_at columns row c

abbrev pub holds : List (List ℤ) → ℕ → Test → Bool
holds columns row t = compares t.cmp (int_cmp (value_at columns row t.column) (against_at columns row t.against))

abbrev pub all_hold : List (List ℤ) → List Test → ℕ → Bool
all_hold columns tests row = list_all (holds columns row) tests

-- no row from the one place up to the other passes all tests
abbrev pub NonePasses : List (List ℤ) → List Test → ℕ → ℕ → Type 0
NonePasses columns tests from to = (row : ℕ) → from ≤ row → row < to → all_hold columns tests row ≡ false

-- the column that a test names is one of the first n
abbrev pub IsThere : ℕ → Against → Type 0
IsThere n (Value v) = Unit {0}
IsThere n (Column c) = c < n

pub record NamesColumns (n : ℕ) (t : Test) : Type 0 where
  pub column : t.column < n
  pub against : IsThere n t.against

-- Each value is one of 64 bits. All values of the code are, but the prover doesn't know it by itself of a slice's
-- elements.
abbrev pub HaveValues : List (List ℤ) → Type 0
HaveValues columns = (column row : ℕ) → is_value (value_at columns row column) ≡ true
