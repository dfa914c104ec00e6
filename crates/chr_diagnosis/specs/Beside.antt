-- Two facts of one symbol beside each other.
use Rattle.std.specs.Prelude.{◌≡◌, ◌↔◌, ℤ, List, [], ◌∷◌, Bool, IsTrue}
use Rattle.std.specs.Bool.{Decides}
use Rattle.chr_base.specs.declared.atom.SymbolId.{SymbolId}
use Rattle.chr_base.specs.declared.rule.Rule.{Rule}
use Rattle.chr_base.specs.Stores.{Store, store_of}
use Rattle.chr_base.specs.Rules.{Step}
use Rattle.chr_base.specs.Rewriting.{IsAtRest}
use Rattle.chr_diagnosis.specs.declared.beside.Pair.{Pair}

-- for each argument whether the two lists differ there
abbrev pub AreApart : List ℤ → List ℤ → List Bool → Type 0
AreApart [] ys apart = apart ≡ []
AreApart (x ∷ xs) [] apart = apart ≡ []
AreApart (x ∷ xs) (y ∷ ys) [] = ⊥
AreApart (x ∷ xs) (y ∷ ys) (b ∷ apart) = Decides b (¬ (x ≡ y)) × AreApart xs ys apart

abbrev pub store_of_pair : Pair → Store
store_of_pair p = store_of (p.first ∷ p.second ∷ [])

-- two facts of the symbol, in which columns they differ, and whether no rule has a step in the store of the two
pub record IsPairOf (rules : List Rule) (symbol : SymbolId) (p : Pair) : Type 0 where
  pub first : p.first.symbol ≡ symbol
  pub second : p.second.symbol ≡ symbol
  pub apart : AreApart p.first.args.items p.second.args.items p.apart.items
  pub stays : IsTrue p.stays ↔ IsAtRest (Step rules) (store_of_pair p)

-- it is told to stay, and to differ in just these columns
abbrev pub StaysApart : List Bool → Pair → Type 0
StaysApart apart p = IsTrue p.stays × (p.apart.items ≡ apart)
