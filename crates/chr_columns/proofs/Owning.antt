-- A pool's own rules.
use Rattle.std.specs.Prelude.{Some, slice_get}
use Rattle.std.proofs.lemmas.Option.{none-some, same_Some}
use Rattle.std.proofs.Common.{◌≡◌, ℕ, zero, suc, List, [], ◌∷◌, length, Bool, true, refl, arith, ap, subst, ◌∙◌, sym}
use Rattle.std.specs.Bool.{◌==◌}
use Rattle.std.proofs.lemmas.Bool.{eqb-true}
use Rattle.chr_base.specs.declared.atom.Atom.{Atom}
use Rattle.chr_base.specs.declared.rule.Rule.{Rule}
use Rattle.chr_base.specs.Atoms.{atom_cmp}
use Rattle.chr_base.specs.FinBag.{◌⊕◌}
use Rattle.chr_base.specs.Rewriting.{IsAtRest}
use Rattle.chr_base.specs.Rules.{Step, StepBy, HasNoStep}
use Rattle.chr_base.specs.Stores.{Store, store_of}
use Rattle.chr_base.proofs.FinBags.{of_list-none}
use Rattle.chr_base.proofs.Stores.{plus_empty}
use Rattle.chr_base.proofs.SameSteps.{same_rule}
use Rattle.chr_columns.specs.working.Own.{IsOwn}

-- under the rules at rest, an own rule has no step
pub own_rests : (rules : List Rule) (r : Rule) (s : Store) (xs : List Atom) → IsAtRest (Step rules) s → xs ≡ []
    → IsOwn rules r → HasNoStep r (s ⊕ store_of xs)
own_rests rules r s xs rest none own v t h =
    let all : s ⊕ store_of xs ≡ s = ap (λ l. s ⊕ store_of l) none ∙ ap (λ x. s ⊕ x) (of_list-none atom_cmp)
    ∙ plus_empty s in
    rest t (own.0, own.1, v, own.2, same_rule r own.1 v s t (sym own.3) (subst (λ x. StepBy r v x t) all h))

pub nothing_fresh : (b : Bool) (xs : List Atom) → b ≡ true → b ≡ (length xs == 0) → xs ≡ []
nothing_fresh b xs e h = no_length xs (eqb-true _ _ (sym h ∙ e))
  where
    no_length : (ys : List Atom) → length ys ≡ 0 → ys ≡ []
    no_length [] l = refl
    no_length (y ∷ ys) l = absurd (omega (arith, l))

-- a step of the rule at that number is one of the rules
pub carried_one : (rules : List Rule) (n : ℕ) (r : Rule) (s t : Store) → slice_get rules n ≡ Some r → Step (r ∷ []) s t
    → Step rules s t
carried_one rules n r s t at h = by h.0 h.3
  where
    by : (i : ℕ) → slice_get (r ∷ []) i ≡ Some h.1 → Step rules s t
    by zero e = (n, r, h.2, at, subst (λ x. StepBy x h.2 s t) (sym (same_Some r h.1 e)) h.4)
    by (suc i) e = absurd (none-some h.1 e)
