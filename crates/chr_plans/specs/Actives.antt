-- A store at rest, and an active atom beside it.
use Rattle.std.specs.Prelude.{ℕ, ◌<◌, List, [], ◌∷◌, Some, slice_get, IsTrue, ◌≡◌}
use Rattle.chr_base.specs.declared.atom.Atom.{Atom}
use Rattle.chr_base.specs.declared.rule.Rule.{Rule}
use Rattle.chr_base.specs.FinBag.{◌⊕◌, ◌⊖◌, IsWithin}
use Rattle.chr_base.specs.Rules.{Step, Valuation, heads_at, guard_holds}
use Rattle.chr_base.specs.Stores.{Store, store_of, count}

-- the store of one atom
abbrev pub one : Atom → Store
one a = store_of (a ∷ [])

-- the atom is among the first atoms, and the store has the others of the second
abbrev pub IsWith : Store → Store → Store → Atom → Type 0
IsWith some heads s a = (0 < count some a) × IsWithin (heads ⊖ one a) s

-- no instance of the rules has the atom among its heads and the others in the store
abbrev pub NoInstanceWith : List Rule → Store → Atom → Type 0
NoInstanceWith rules s a =
    (i : ℕ) (r : Rule) (v : Valuation) → slice_get rules i ≡ Some r → IsTrue (guard_holds v r.guard.items)
    → ¬ IsWith (store_of (heads_at v r)) (store_of (heads_at v r)) s a

-- one step of the store with the atom, which leaves a part of the store, and these atoms beside it
pub record StepsWith (rules : List Rule) (a : Atom) (s left : Store) (out : Store) : Type 0 where
  pub part : IsWithin left s
  pub step : Step rules (s ⊕ one a) (left ⊕ out)
