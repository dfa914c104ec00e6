-- Tables of rows that are found by keys.
use Rattle.std.specs.Prelude.{◌≡◌, ℕ, ℤ, List, Option, Some, IsTrue, is_some, option_map}
use Rattle.chr_base.specs.declared.atom.Atom.{Atom}
use Rattle.chr_plans.specs.declared.key.Span.{Span}
use Rattle.chr_plans.specs.Keys.{key_of, Spans}

-- for each table and row its atom, where the row lives
abbrev pub Tables : Type 0
Tables = ℕ → ℕ → Option Atom

-- for each table and index the columns by which it finds rows
abbrev pub Columns : Type 0
Columns = ℕ → ℕ → Option (List ℕ)

-- For each table and index the rank of each row. A look-up goes from the greatest rank down.
abbrev pub Ranks : Type 0
Ranks = ℕ → ℕ → ℕ → ℕ

-- each live row has a rank of its own
abbrev pub HaveOwnRanks : (ℕ → Option Atom) → (ℕ → ℕ) → Type 0
HaveOwnRanks rows rank =
    (n m : ℕ) → IsTrue (is_some (rows n)) → IsTrue (is_some (rows m)) → rank n ≡ rank m → n ≡ m

-- the row lives, and its values in the index's columns are the key
abbrev pub HasKey : Option (List ℕ) → List ℤ → Option Atom → Type 0
HasKey columns key row =
    (a : Atom) × (row ≡ Some a) × (option_map (λ cs. key_of cs a) columns ≡ Some key)

-- the row lives, and is in the span
abbrev pub LiesIn : Span → Option Atom → Type 0
LiesIn span row = (a : Atom) × (row ≡ Some a) × Spans span a
