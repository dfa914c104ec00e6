-- The columns of indexes and the plans, as they are collected.
use Rattle.std.specs.Prelude.{◌≡◌, ℕ, List, [], map, get_or, slice_get, Some}
use Rattle.chr_base.specs.declared.rule.Rule.{Rule}
use Rattle.chr_plans.specs.declared.key.Order.{Order}
use Rattle.chr_plans.specs.Rows.{Columns}
use Rattle.chr_columns.specs.declared.groups.Group.{Group}
use Rattle.chr_columns.specs.declared.making.Keys.{Keys}
use Rattle.chr_columns.specs.declared.making.Way.{Way}
use Rattle.chr_columns.specs.working.Groups.{shapes_of}
use Rattle.chr_columns.specs.working.Resting.{HasPlan}

-- the columns of an index, and its order, by whose values it leaves out rows
abbrev pub made_way : Way → List ℕ × Order
made_way w = (w.columns.items, w.order)

abbrev pub made_ways : Keys → List (List ℕ × Order)
made_ways k = map made_way k.ways.items

-- the columns of the indexes of a table
abbrev pub lists_of : Keys → List (List ℕ)
lists_of k = map (λ w. w.0) (made_ways k)

-- the columns of an index of a table, where there is such an index
abbrev pub columns_in : List Keys → Columns
columns_in keys table index = slice_get (get_or (map lists_of keys) table []) index

-- an index stays one with the same number and columns: of one table, and then of any table
abbrev pub StayIndexed : List (List ℕ) → List (List ℕ) → Type 0
StayIndexed before after = (i : ℕ) (cs : List ℕ) → slice_get before i ≡ Some cs → slice_get after i ≡ Some cs

abbrev pub Grows : Columns → Columns → Type 0
Grows before after = (t i : ℕ) (cs : List ℕ) → before t i ≡ Some cs → after t i ≡ Some cs

-- groups for the same atoms, with the plans that there were
pub record KeepPlans (before after : List Group) : Type 0 where
  pub shapes : shapes_of after ≡ shapes_of before
  pub plans : (t i : ℕ) (r : Rule) (p : ℕ) → HasPlan before t i r p → HasPlan after t i r p
