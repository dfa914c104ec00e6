-- Cases of two rules: two instances whose heads are matched, and the stores on both sides.
use Rattle.std.specs.Prelude.{◌≡◌, ℕ, ◌≤◌, Bool, List, ◌++◌, Some, slice_get, IsTrue}
use Rattle.chr_base.specs.declared.atom.Atom.{Atom}
use Rattle.chr_base.specs.declared.rule.Rule.{Rule}
use Rattle.chr_base.specs.Stores.{Store, store_of}
use Rattle.chr_base.specs.Rules.{Step, Valuation, atoms_at, guard_holds}
use Rattle.chr_base.specs.FinBag.{◌⊕◌, ◌⊖◌}
use Rattle.chr_base.specs.Rewriting.{AreJoinable}
use Rattle.chr_base.specs.Values.{Each}
use Rattle.chr_confluence.specs.Matchings.{Matches, case_atoms}

-- both heads of an instance
abbrev pub both_heads : Rule → Valuation → List Atom
both_heads r v = atoms_at v r.kept.items ++ atoms_at v r.removed.items

-- two instances whose heads are matched, and whose guards hold
pub record IsCase (r1 r2 : Rule) (m : List ℕ) (v1 v2 : Valuation) : Type 0 where
  pub matches :
      Matches (atoms_at v1 r1.kept.items) (atoms_at v1 r1.removed.items) (atoms_at v2 r2.kept.items)
      (atoms_at v2 r2.removed.items) m
  pub guard1 : IsTrue (guard_holds v1 r1.guard.items)
  pub guard2 : IsTrue (guard_holds v2 r2.guard.items)

-- the heads of both instances, the matched ones once
abbrev pub case_store : Rule → Rule → List ℕ → Valuation → Valuation → Store
case_store r1 r2 m v1 v2 = store_of (case_atoms (both_heads r1 v1) (both_heads r2 v2) m)

-- what a step by the instance makes of the store
abbrev pub side : Rule → Valuation → Store → Store
side r v s = (s ⊖ store_of (atoms_at v r.removed.items)) ⊕ store_of (atoms_at v r.body.items)

-- The sides of every case whose atoms pass the test p are joinable. Each rule is overlapped with those from itself on,
-- so with a copy of itself too.
abbrev pub CasesAreJoinable : (Atom → Bool) → List Rule → Type 0
CasesAreJoinable p rules =
    (i j : ℕ) (r1 r2 : Rule) → slice_get rules i ≡ Some r1 → slice_get rules j ≡ Some r2 → i ≤ j
    → (m : List ℕ) (v1 v2 : Valuation) → IsCase r1 r2 m v1 v2 → Each p (case_store r1 r2 m v1 v2)
    → AreJoinable (Step rules) (side r1 v1 (case_store r1 r2 m v1 v2)) (side r2 v2 (case_store r1 r2 m v1 v2))
