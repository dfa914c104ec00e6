-- Values that are known before a head is looked for, and tests of them.
use Rattle.std.specs.Prelude.{ℕ, ℤ, List, [], ◌∷◌, map, get_or, pos, Bool}
use Rattle.std.specs.Ordering.{int_cmp}
use Rattle.chr_base.specs.declared.atom.Atom.{Atom}
use Rattle.chr_base.specs.Atoms.{no_atom}
use Rattle.chr_base.specs.Rules.{compares}
use Rattle.chr_indexes.specs.RangedRows.{IsIn}
use Rattle.chr_plans.specs.declared.key.Test.{Test}
use Rattle.chr_plans.specs.declared.key.Limit.{Limit}
use Rattle.chr_plans.specs.declared.key.Order.{Order}
use Rattle.chr_plans.specs.declared.key.Order.TheVariants.{Unordered, By, ByBoth}
use Rattle.chr_plans.specs.declared.key.Band.{Band}
use Rattle.chr_plans.specs.declared.key.Span.{Span}
use Rattle.chr_plans.specs.declared.key.Source.{Source}
use Rattle.chr_plans.specs.declared.key.Source.TheVariants.{Constant, Argument}

-- the argument of an atom in a column, 0 past the last
abbrev pub argument : Atom → ℕ → ℤ
argument a column = get_or a.args.items column (pos 0)

-- the arguments of an atom in these columns
abbrev pub key_of : List ℕ → Atom → List ℤ
key_of columns a = map (argument a) columns

-- the value that comes from a source under these heads
abbrev pub source_value : List Atom → Source → ℤ
source_value heads (Constant c) = c
source_value heads (Argument place column) = argument (get_or heads place no_atom) column

-- the heads pass the test
abbrev pub passes : List Atom → Test → Bool
passes heads t = compares t.cmp (int_cmp (source_value heads t.left) (source_value heads t.right))

-- the limit allows the atom under the heads
abbrev pub allows : List Atom → Atom → Limit → Bool
allows heads a l = compares l.cmp (int_cmp (argument a l.column) (source_value heads l.source))

-- the columns of an order
abbrev pub columns_by : Order → List ℕ
columns_by Unordered = []
columns_by (By column) = column ∷ []
columns_by (ByBoth first second) = first ∷ second ∷ []

-- the atom is in the band
abbrev pub IsInBand : Band → Atom → Type 0
IsInBand b a = IsIn b.range (argument a b.column)

abbrev pub Spans : Span → Atom → Type 0
Spans s a = IsInBand s.first a × IsInBand s.second a
