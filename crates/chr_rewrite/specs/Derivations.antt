-- Derivations step by step, and the plain computation, which takes the least step at each store (Frühwirth 2009).
use Rattle.std.specs.Prelude.{◌≡◌, ℕ, ◌+◌, ◌-◌, ◌<◌, List, [], ◌∷◌, Some, slice_get, take}
use Rattle.std.specs.declared.cmp.Ordering.TheVariants.{Less}
use Rattle.std.specs.Cmp.Lexicographic.{slice_cmp}
use Rattle.chr_base.specs.declared.atom.Atom.{Atom}
use Rattle.chr_base.specs.declared.rule.Rule.{Rule}
use Rattle.chr_base.specs.declared.derivation.Step.{Step as StepValue}
use Rattle.chr_base.specs.Atoms.{atom_cmp}
use Rattle.chr_base.specs.FinBag.{IsWithin}
use Rattle.chr_base.specs.Stores.{Store, store_of}
use Rattle.chr_base.specs.Rules.{Step, HasInstance, StepOn, HasNoStep}
use Rattle.chr_base.specs.Rewriting.{IsAtRest}

-- the step's rule, numbered from 1, has an instance with the step's heads, and these are in the store s
pub record IsApplicable (rules : List Rule) (s : Store) (st : StepValue) : Type 0 where
  pub rule : Rule
  pub numbered : 0 < st.rule
  pub named : slice_get rules (st.rule - 1) ≡ Some rule
  pub instance : HasInstance rule st.heads.items
  pub there : IsWithin (store_of st.heads.items) s

-- the step is applicable at s, and leads from s to t
abbrev pub LeadsTo : List Rule → StepValue → Store → Store → Type 0
LeadsTo rules st s t = (at : IsApplicable rules s st) × StepOn at.rule st.heads.items s t

-- the steps, one after another, lead from s to t
abbrev pub IsDerivation : List Rule → List StepValue → Store → Store → Type 0
IsDerivation rules [] s t = s ≡ t
IsDerivation rules (st ∷ steps) s t = (u : Store) × LeadsTo rules st s u × IsDerivation rules steps u t

-- the steps before the place n, counted from 0, are a derivation, and the one at n is not applicable at its end
abbrev pub IsFirstInapplicable : List Rule → List StepValue → Store → ℕ → Type 0
IsFirstInapplicable rules steps s n =
    (u : Store) × (st : StepValue) × IsDerivation rules (take n steps) s u
    × (slice_get steps n ≡ Some st) × (¬ IsApplicable rules u st)

-- no instance of the rule in s has heads that come before these, compared place by place
abbrev pub IsLeastInstance : Rule → Store → List Atom → Type 0
IsLeastInstance r s heads =
    (others : List Atom) → slice_cmp atom_cmp others heads ≡ Less → HasInstance r others
    → ¬ IsWithin (store_of others) s

-- the step is applicable at s, of the first rule that has a step there, and by the least instance of that rule
pub record IsLeastStep (rules : List Rule) (s : Store) (st : StepValue) : Type 0 where
  pub at : IsApplicable rules s st
  pub least_rule : (i : ℕ) (r : Rule) → i + 1 < st.rule → slice_get rules i ≡ Some r → HasNoStep r s
  pub least_heads : IsLeastInstance at.rule s st.heads.items

-- a derivation each of whose steps is the least at its store
abbrev pub IsPlainDerivation : List Rule → List StepValue → Store → Store → Type 0
IsPlainDerivation rules [] s t = s ≡ t
IsPlainDerivation rules (st ∷ steps) s t =
    (u : Store) × IsLeastStep rules s st × LeadsTo rules st s u × IsPlainDerivation rules steps u t

-- a plain derivation that ends at rest
abbrev pub IsPlainComputation : List Rule → List StepValue → Store → Store → Type 0
IsPlainComputation rules steps s t = IsPlainDerivation rules steps s t × IsAtRest (Step rules) t
