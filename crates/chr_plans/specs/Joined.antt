-- Rules whose heads are joined by one argument each: in each rule one variable stands there in all heads.
use Rattle.std.specs.Prelude.{◌≡◌, ℕ, ℤ, ◌<◌, List, get_or, slice_get, Some, All}
use Rattle.chr_base.specs.declared.atom.Atom.{Atom}
use Rattle.chr_base.specs.declared.atom.SymbolId.{SymbolId}
use Rattle.chr_base.specs.declared.rule.Rule.{Rule}
use Rattle.chr_base.specs.declared.term.Pattern.{Pattern}
use Rattle.chr_base.specs.declared.term.Term.TheVariants.{Variable}
use Rattle.chr_base.specs.Rules.{heads_of}
use Rattle.chr_base.specs.Stores.{Store, count}
use Rattle.chr_plans.specs.Keys.{argument}

-- the column of a symbol, counted from 0: the one at the symbol's number in the list, or 0 past its end
abbrev pub column_in : List ℕ → SymbolId → ℕ
column_in columns symbol = get_or columns symbol.0 0

-- the argument of an atom in the column of its symbol, 0 where it has none there
abbrev pub value_in : List ℕ → Atom → ℤ
value_in columns a = argument a (column_in columns a.symbol)

-- the variable stands in the joining column of the pattern's symbol
abbrev pub HasThere : List ℕ → ℕ → Pattern → Type 0
HasThere columns x p = slice_get p.args.items (column_in columns p.symbol) ≡ Some (Variable x)

-- some variable stands in the joining column of all heads of the rule
abbrev pub IsJoined : List ℕ → Rule → Type 0
IsJoined columns r = (x : ℕ) × All (HasThere columns x) (heads_of r)

-- Some variable stands in the joining column of all heads and all atoms of the body of the rule. So a step leads from
-- atoms of one value to atoms of that value.
abbrev pub IsLocal : List ℕ → Rule → Type 0
IsLocal columns r = (x : ℕ) × All (HasThere columns x) (heads_of r) × All (HasThere columns x) r.body.items

-- no atom of the one store has the value of an atom of the other
abbrev pub AreApart : List ℕ → Store → Store → Type 0
AreApart columns s t = (a b : Atom) → 0 < count s a → 0 < count t b → ¬ (value_in columns a ≡ value_in columns b)
