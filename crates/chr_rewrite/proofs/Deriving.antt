-- What the loops of derivations know as they go on.
use Rattle.std.specs.Prelude.{◌≡◌, ℕ, ◌+◌, ◌-◌, ◌<◌, List, [], ◌∷◌, ◌++◌, length, get_or, take, drop, Bool, IsTrue, ◌↔◌}
use Rattle.std.specs.Prelude.{Option, Some, None, IfSome, IfNone, is_some, true, false, slice_get}
use mathlib.Core.Bool.{true≢false}
use Rattle.std.specs.Bool.{OnTrue, OnFalse}
use Rattle.std.proofs.Common.{refl, sym, ap, subst, ◌∙◌, arith, ◌≤◌, ◌⊎◌, inl, inr}
use Rattle.std.proofs.lemmas.Bool.{OnTrue_at, OnFalse_at, cases_lt}
use Rattle.std.proofs.lemmas.List.{take_more, get_or_default}
use Rattle.std.proofs.lemmas.Option.{slice_get_read, get_or_from_slice_get}
use Rattle.chr_base.specs.declared.atom.Atom.{Atom}
use Rattle.chr_base.specs.declared.rule.Rule.{Rule}
use Rattle.chr_base.specs.declared.derivation.Step.{Step as StepValue}
use Rattle.chr_base.specs.declared.program.Program.{Program}
use Rattle.chr_base.specs.Atoms.{atom_cmp}
use Rattle.chr_base.specs.FinBag as bag
use Rattle.chr_base.proofs.FinBags as bag_laws
use Rattle.chr_base.specs.FinBag.{IsWithin, ◌⊕◌, ◌⊖◌}
use Rattle.chr_base.specs.Stores.{Store, store_of}
use Rattle.chr_base.proofs.Stores.{store_of-items}
use Rattle.chr_base.specs.Rules.{Step, HasInstance, Valuation, heads_at, atoms_at, StepOn, HasNoStep}
use Rattle.chr_base.specs.Programs.{rules_of}
use Rattle.chr_base.specs.Rewriting.{IsAtRest}
use Rattle.chr_weights.specs.Weights.{store_rank, ProgramLowers}
use Rattle.chr_rewrite.specs.Derivations.{IsApplicable, LeadsTo, IsDerivation, IsLeastInstance, IsLeastStep}
use Rattle.chr_rewrite.specs.Derivations.{IsPlainDerivation, IsPlainComputation, IsFirstInapplicable}
use Rattle.chr_base.proofs.Steps.{removed_heads, removed_within}
use Rattle.chr_rewrite.proofs.DerivationLemmas.{LeadsTo-steps}
use Rattle.chr_rewrite.proofs.StepCounts.{one_lowers}

-- the removed heads were taken out, and the body put in
pub fired_bag : (r : Rule) (heads gone body : List Atom) (s t u : Store) (b : Bool) → HasInstance r heads
    → IsWithin (store_of heads) s → gone ≡ drop (length r.kept.items) heads
    → IsTrue b ↔ IsWithin (store_of gone) s → OnTrue b (t ≡ s ⊖ store_of gone)
    → ((v : Valuation) → heads_at v r ≡ heads → body ≡ atoms_at v r.body.items) → u ≡ t ⊕ store_of body
    → StepOn r heads s u
fired_bag r heads gone body s t u b h w e there taken made came =
    let v = h.0 in
    let taken' : t ≡ s ⊖ store_of gone = OnTrue_at (there.1 (rw e (removed_within r heads s h w))) taken in
    let left : gone ≡ atoms_at v r.removed.items = e ∙ removed_heads r heads v h.1 in (
      v,
      h.1,
      record {
        guard = h.2;
        there = rw h.1 w;
        after = came ∙ ap (λ z. z ⊕ store_of body) taken'
            ∙ (λ i. (s ⊖ store_of (left i)) ⊕ store_of (made v h.1 i));
      },
    )

in_order : (s : Store) (xs : List Atom) → xs ≡ bag.items s → IsTrue (bag.is_rising atom_cmp xs)
in_order s xs e = rw e (bag_laws.is_true _ (bag_laws.items_rise s))

its_atoms : (s : Store) (xs : List Atom) → xs ≡ bag.items s → store_of xs ≡ s
its_atoms s xs e = ap store_of e ∙ store_of-items s

-- the first rule that has a step has the least one
pub least_of : (rules : List Rule) (i : ℕ) (r : Rule) (s : Store) (xs : List Atom) (st : StepValue) → i < length rules
    → r ≡ get_or rules i r → xs ≡ bag.items s → ((k : ℕ) (d : Rule) → k < i → HasNoStep (get_or rules k d) s)
    → st.rule ≡ i + 1 → HasInstance r st.heads.items → IsWithin (store_of st.heads.items) (store_of xs)
    → (IsTrue (bag.is_rising atom_cmp xs) → IsLeastInstance r (store_of xs) st.heads.items) → IsLeastStep rules s st
least_of rules i r s xs st l is e below number h w least = record {
  at = record {
    rule = r;
    numbered = omega (arith, number);
    named = (let z : st.rule - 1 ≡ i = omega (arith, number) in ap (slice_get rules) z
        ∙ slice_get_read rules (length rules) i r refl l is);
    instance = h;
    there = subst (IsWithin (store_of st.heads.items)) (its_atoms s xs e) w;
  };
  least_rule = λ k d m f. subst (λ q. HasNoStep q s) (get_or_from_slice_get rules k d d f)
      (below k d (omega (arith, number, m)));
  least_heads = subst (λ z. IsLeastInstance r z st.heads.items) (its_atoms s xs e) (least (in_order s xs e));
}

-- one more rule has no step
pub no_step_more : (rules : List Rule) (i : ℕ) (r : Rule) (s : Store) (xs : List Atom) → i < length rules
    → r ≡ get_or rules i r → xs ≡ bag.items s → ((k : ℕ) (d : Rule) → k < i → HasNoStep (get_or rules k d) s)
    → HasNoStep r (store_of xs) → (k : ℕ) (d : Rule) → k < i + 1 → HasNoStep (get_or rules k d) s
no_step_more rules i r s xs l is e below here k d m = by (cases_lt k i)
  where
    by : (k < i) ⊎ (i ≤ k) → HasNoStep (get_or rules k d) s
    by (inl h) = below k d h
    by (inr h) =
        let same : k ≡ i = omega (arith, h, m) in
        let rule : get_or rules k d ≡ r = ap (λ n. get_or rules n d) same ∙ get_or_default rules i d r l ∙ sym is in
        subst (λ q. HasNoStep q s) (sym rule) (subst (HasNoStep r) (its_atoms s xs e) here)

-- the rule of a step that is an instance is the one in the list
pub rule_there : (rules : List Rule) (s : Store) (st : StepValue) (r : Rule) (h : IsApplicable rules s st)
    → r ≡ get_or rules (st.rule - 1) r → r ≡ h.rule
rule_there rules s st r h is = is ∙ get_or_from_slice_get rules (st.rule - 1) h.rule r h.named

-- one least step more
pub IsPlainDerivation-push : (rules : List Rule) (steps : List StepValue) (st : StepValue) (s t u : Store)
    → IsPlainDerivation rules steps s t → IsLeastStep rules t st → LeadsTo rules st t u
    → IsPlainDerivation rules (steps ++ st ∷ []) s u
IsPlainDerivation-push rules [] st s t u h least takes =
    (u, subst (λ z. IsLeastStep rules z st) (sym h) least, subst (λ z. LeadsTo rules st z u) (sym h) takes, refl)
IsPlainDerivation-push rules (x ∷ steps) st s t u h least takes =
    (h.0, h.1, h.2, IsPlainDerivation-push rules steps st h.0 t u h.3 least takes)

-- one step more
pub IsDerivation-push : (rules : List Rule) (steps : List StepValue) (st : StepValue) (s t u : Store)
    → IsDerivation rules steps s t → LeadsTo rules st t u → IsDerivation rules (steps ++ st ∷ []) s u
IsDerivation-push rules [] st s t u h takes = (u, subst (λ z. LeadsTo rules st z u) (sym h) takes, refl)
IsDerivation-push rules (x ∷ steps) st s t u h takes = (h.0, h.1, IsDerivation-push rules steps st h.0 t u h.2 takes)

-- a step lowers the rank
pub LeadsTo-lowers : (p : Program) (rules : List Rule) (st : StepValue) (s t : Store) → ProgramLowers p
    → rules ≡ rules_of p → LeadsTo rules st s t → store_rank p t < store_rank p s
LeadsTo-lowers p rules st s t lowers same h = one_lowers p rules s t lowers same (LeadsTo-steps rules st s t h)

-- the step was taken by its rule
pub took_step : (rules : List Rule) (st : StepValue) (s t : Store) (r : Rule) → IsLeastStep rules s st
    → r ≡ get_or rules (st.rule - 1) r → StepOn r st.heads.items s t → LeadsTo rules st s t
took_step rules st s t r h is step = (
  h.at,
  subst (λ q. StepOn q st.heads.items s t)
      (rule_there rules s st r h.at is) step,
)

-- the step was taken by the rule that it names
pub took_there : (rules : List Rule) (st : StepValue) (r : Rule) (s t : Store) → (st.rule ≡ 0 → ⊥)
    → st.rule - 1 < length rules → r ≡ get_or rules (st.rule - 1) r
    → HasInstance r st.heads.items → IsWithin (store_of st.heads.items) s → StepOn r st.heads.items s t
    → LeadsTo rules st s t
took_there rules st r s t some l is h w step = (
  record {
    rule = r;
    numbered = omega (arith, some);
    named = slice_get_read rules (length rules) (st.rule - 1) r refl l is;
    instance = h;
    there = w;
  },
  step,
)

-- the step at a place was taken
pub IsDerivation-next : (rules rules' : List Rule) (steps : List StepValue) (i : ℕ) (st : StepValue) (s t u : Store)
    (b : Bool) → rules' ≡ rules → i < length steps → st ≡ get_or steps i st → IsDerivation rules (take i steps) s t
    → b ≡ true → OnTrue b (LeadsTo rules' st t u) → IsDerivation rules (take (i + 1) steps) s u
IsDerivation-next rules rules' steps i st s t u b same l is h yes' takes =
    let next : take (i + 1) steps ≡ take i steps ++ st ∷ [] = take_more steps i st l ∙ ap (λ y. take i steps ++ y ∷ [])
    (sym is) in
    rw next (IsDerivation-push rules (take i steps) st s t u h
    (subst (λ rs. LeadsTo rs st t u) same (OnTrue_at yes' takes)))

-- the step at a place is no instance there
pub stops_here : (rules rules' : List Rule) (steps : List StepValue) (i : ℕ) (st : StepValue) (s t : Store) (b : Bool)
    → rules' ≡ rules → i < length steps → st ≡ get_or steps i st → IsDerivation rules (take i steps) s t
    → b ≡ false → OnFalse b (IsApplicable rules' t st → ⊥) → IsFirstInapplicable rules steps s i
stops_here rules rules' steps i st s t b same l is h missed none = (
  t,
  st,
  h,
  slice_get_read steps (length steps) i st refl l is,
  subst (λ rs. IsApplicable rs t st → ⊥) same
      (OnFalse_at missed none),
)

-- what a search for the next step found, and what was done then
module _ (p : Program) (rules : List Rule) (same : rules ≡ rules_of p) where
  pub found_lowers : (o : Option StepValue) (s t : Store) → ProgramLowers p → is_some o ≡ true
      → IfSome o (λ st. LeadsTo rules st s t) → store_rank p t < store_rank p s
  found_lowers None s t lowers e h = absurd (true≢false (sym e))
  found_lowers (Some st) s t lowers e h = LeadsTo-lowers p rules st s t lowers same h

  pub found_more : (o : Option StepValue) (s t u : Store) → is_some o ≡ true → IfSome o (IsLeastStep rules t)
      → IfSome o (λ st. LeadsTo rules st t u) → (steps : List StepValue) × IsPlainDerivation (rules_of p) steps s t
      → (steps : List StepValue) × IsPlainDerivation (rules_of p) steps s u
  found_more None s t u e h g w = absurd (true≢false (sym e))
  found_more (Some st) s t u e h g w = (
    w.0 ++ st ∷ [],
    IsPlainDerivation-push (rules_of p) w.0 st s t u w.1
        (subst (λ rs. IsLeastStep rs t st) same h) (subst (λ rs. LeadsTo rs st t u) same g),
  )

  pub at_end : (o : Option StepValue) (s t u : Store) → is_some o ≡ false → IfNone o (IsAtRest (Step rules) t)
      → IfNone o (u ≡ t) → (steps : List StepValue) × IsPlainDerivation (rules_of p) steps s t
      → (steps : List StepValue) × IsPlainComputation (rules_of p) steps s u
  at_end None s t u e h g w = (w.0, (rw g w.1, rw g (subst (λ rs. IsAtRest (Step rs) t) same h)))
  at_end (Some st) s t u e h g w = absurd (true≢false e)
