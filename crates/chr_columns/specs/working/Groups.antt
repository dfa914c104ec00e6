-- Groups of atoms by symbol and number of arguments.
use Rattle.std.specs.Prelude.{◌≡◌, ℕ, suc, ◌<◌, List, [], ◌∷◌, map, length, Bool, ◌&&◌, nat_eq, if◌then◌else◌, Some}
use Rattle.std.specs.Prelude.{get_or, slice_get}
use Rattle.chr_base.specs.declared.atom.SymbolId.{SymbolId}
use Rattle.chr_base.specs.declared.atom.Atom.{Atom}
use Rattle.chr_base.specs.declared.term.Pattern.{Pattern}
use Rattle.chr_base.specs.declared.rule.Rule.{Rule}
use Rattle.chr_base.specs.Rules.{heads_of}
use Rattle.chr_plans.specs.Plans.{pattern_at}
use Rattle.chr_columns.specs.declared.groups.Group.{Group}

-- the group has the atoms with this symbol and number of arguments
abbrev pub is_for : SymbolId → ℕ → Group → Bool
is_for symbol arity g = nat_eq g.symbol.0 symbol.0 && nat_eq g.arity arity

-- the number of the group of the atoms with this symbol and number of arguments, or the number of groups where there is
-- none; the table of the atoms has the same number
abbrev pub table_of : List Group → SymbolId → ℕ → ℕ
table_of [] symbol arity = 0
table_of (g ∷ gs) symbol arity = if is_for symbol arity g then 0 else suc (table_of gs symbol arity)

-- the number of the table of an atom, and of a pattern's atoms
abbrev pub table_of_atom : List Group → Atom → ℕ
table_of_atom groups a = table_of groups a.symbol (length a.args.items)

abbrev pub table_of_pattern : List Group → Pattern → ℕ
table_of_pattern groups p = table_of groups p.symbol (length p.args.items)

-- the symbol and the number of arguments of each group
abbrev pub shapes_of : List Group → List (SymbolId × ℕ)
shapes_of groups = map (λ g. (g.symbol, g.arity)) groups

-- there is a group for a pattern's atoms; after it, for those of the first n heads of a rule, and for those of all
-- heads of rules
abbrev pub IsGrouped : List Group → Pattern → Type 0
IsGrouped groups p = table_of_pattern groups p < length groups

abbrev pub AreGrouped : List Group → Rule → ℕ → Type 0
AreGrouped groups r n = (p : ℕ) → p < n → IsGrouped groups (pattern_at r p)

abbrev pub AllGrouped : List Group → List Rule → Type 0
AllGrouped groups rules = (i : ℕ) (r : Rule) → slice_get rules i ≡ Some r → AreGrouped groups r (length (heads_of r))

-- each pattern whose atoms had a group has one
abbrev pub StayGrouped : List Group → List Group → Type 0
StayGrouped before after = (p : Pattern) → IsGrouped before p → IsGrouped after p

-- no group has a plan
abbrev pub HaveNoPlans : List Group → Type 0
HaveNoPlans groups = (t : ℕ) (g : Group) → slice_get groups t ≡ Some g → g.plans.items ≡ []

-- none of the first n groups is for the symbol
abbrev pub AreOthers : List Group → ℕ → ℕ → Type 0
AreOthers groups symbol n = (j : ℕ) (g : Group) → j < n → slice_get groups j ≡ Some g → ¬ (g.symbol.0 ≡ symbol)

-- for each symbol the number of a group, before which none is for it
abbrev pub AreStarts : List ℕ → List Group → Type 0
AreStarts starts groups = (symbol : ℕ) → AreOthers groups symbol (get_or starts symbol 0)
