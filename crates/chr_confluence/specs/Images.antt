-- Images of stores under a map of atoms, and the instances of a rule that such a map carries.
use Rattle.std.specs.Prelude.{◌≡◌, ℕ, List, map, IsTrue, Some, slice_get, Bool}
use Rattle.chr_base.specs.declared.atom.Atom.{Atom}
use Rattle.chr_base.specs.declared.rule.Rule.{Rule}
use Rattle.chr_base.specs.FinBag.{items}
use Rattle.chr_base.specs.Stores.{Store, store_of}
use Rattle.chr_base.specs.Rules.{Step, StepBy, Valuation, atoms_at, guard_holds}
use Rattle.chr_base.specs.Rewriting.{Stays}
use Rattle.chr_base.specs.Values.{Each}

-- the store with the map applied to each atom; it has as many atoms, and those that become equal are added up
abbrev pub image : (Atom → Atom) → Store → Store
image f s = store_of (map f (items s))

-- the map takes each head and body atom of the instance at v to that of the one at w, whose guard holds
pub record Carries (f : Atom → Atom) (r : Rule) (v w : Valuation) : Type 0 where
  pub kept : map f (atoms_at v r.kept.items) ≡ atoms_at w r.kept.items
  pub removed : map f (atoms_at v r.removed.items) ≡ atoms_at w r.removed.items
  pub body : map f (atoms_at v r.body.items) ≡ atoms_at w r.body.items
  pub guard : IsTrue (guard_holds w r.guard.items)

-- At the stores whose atoms pass the test p, which steps keep, the map carries the instance of each step.
pub record CarriesSteps (f : Atom → Atom) (p : Atom → Bool) (rules : List Rule) : Type 0 where
  pub stays : Stays (Step rules) (Each p)
  pub carries :
      (i : ℕ) (r : Rule) (v : Valuation) (s t : Store) → slice_get rules i ≡ Some r → Each p s → StepBy r v s t
      → (w : Valuation) × Carries f r v w
