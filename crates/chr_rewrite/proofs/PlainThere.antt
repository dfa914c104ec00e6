-- Each store has a least step or is at rest, so that rules which lower a weight give it a plain computation.
use Rattle.std.specs.Prelude.{◌≡◌, ℕ, zero, suc, ◌+◌, ◌<◌, ◌≤◌, ◌⊎◌, Bool, true, false, List, [], ◌∷◌, ◌++◌, length}
use Rattle.std.specs.Prelude.{get_or, nat_eq, Some, slice_get, IsTrue}
use Rattle.std.specs.List.{list_any}
use Rattle.std.proofs.Common.{refl, sym, subst, ◌∙◌, arith, inl, inr, length-append}
use mathlib.Core.Bool.{true≢false}
use Rattle.std.proofs.lemmas.List.{append-nil}
use Rattle.chr_base.specs.declared.atom.Atom.{Atom}
use Rattle.chr_base.specs.declared.rule.Rule.{Rule}
use Rattle.chr_base.specs.declared.derivation.Step.{Step as StepValue}
use Rattle.chr_base.specs.FinBag as bag
use Rattle.chr_base.specs.FinBag.{◌⊕◌, ◌⊖◌}
use Rattle.chr_base.specs.Stores.{Store, store_of, weight_of}
use Rattle.chr_base.specs.Rules.{Step, HasInstance, HasNoStep, RuleLowers, atoms_at, heads_of}
use Rattle.chr_base.specs.Rewriting.{IsAtRest}
use Rattle.chr_base.specs.working.Instances.{fires}
use Rattle.chr_base.proofs.Instances.{fires_sound, fires_complete}
use Rattle.chr_base.proofs.Steps.{rests, step_lowers}
use Rattle.chr_rewrite.specs.Derivations.{IsApplicable, LeadsTo, IsLeastStep, IsPlainDerivation, IsPlainComputation}
use Rattle.chr_rewrite.specs.working.Choices.{chosen_atoms, is_choice, NoCompletion, IsFirstChoice}
use Rattle.chr_rewrite.proofs.DerivationLemmas.{LeadsTo-steps}
use Rattle.chr_rewrite.proofs.Deriving.{least_of, no_step_more}
use Rattle.chr_rewrite.proofs.Earliest.{first_itself, first_of_next, least_found}
use Rattle.chr_rewrite.proofs.Searching.{NoneBelow, all_tried, choice_there, instance_places, next_choice, none_found}
use Rattle.chr_rewrite.proofs.Searching.{tried_chosen, tried_taken}

-- ---- one rule

module _ (r : Rule) (items : List Atom) where
  -- the first choice that goes on from these indices and makes an instance
  record Chosen (is : List ℕ) : Type 0 where
    indices : List ℕ
    choice : IsTrue (is_choice items [] indices)
    first : IsFirstChoice r items is indices
    instance : HasInstance r (chosen_atoms items indices)

  abbrev Searched : List ℕ → Type 0
  Searched is = Chosen is ⊎ NoCompletion r items is

  -- an index for each place was chosen
  whole : (is : List ℕ) → length is ≡ length (heads_of r) → IsTrue (is_choice items [] is) → Searched is
  whole is l c = by (fires r (chosen_atoms items is)) refl
    where
      other : fires r (chosen_atoms items is) ≡ false → (js : List ℕ) → HasInstance r (chosen_atoms items (is ++ js))
          → ⊥
      other e [] h = true≢false (sym (fires_complete r (chosen_atoms items is)
          (subst (λ ks. HasInstance r (chosen_atoms items ks)) (append-nil is) h)) ∙ e)
      other e (j ∷ js) h = let a = instance_places r items (is ++ j ∷ js) h in let b = length-append is (j ∷ js) in
          omega (arith, a, b, l)

      by : (b : Bool) → fires r (chosen_atoms items is) ≡ b → Searched is
      by true e = inl (record {
        indices = is;
        choice = c;
        first = first_itself r items is;
        instance =
            fires_sound r (chosen_atoms items is) e;
      })
      by false e = inr (λ js d h. other e js h)

  -- the next index is tried from n on
  next : (is : List ℕ) → (length is ≡ length (heads_of r) → ⊥) → IsTrue (is_choice items [] is)
      → ((js : List ℕ) → length js ≡ suc (length is) → IsTrue (is_choice items [] js) → Searched js)
      → (m n : ℕ) → n + m ≡ length items → NoneBelow r items is n → Searched is
  next is short c deeper zero n e below = inr (all_tried r items is n below (omega (arith, e)) short)
  next is short c deeper (suc m) n e below = by (list_any (λ j. nat_eq j n) is) refl
      (next is short c deeper m (n + 1) (omega (arith, e)))
    where
      longer : length (is ++ n ∷ []) ≡ suc (length is)
      longer = let a = length-append is (n ∷ []) in omega (arith, a)

      after : Searched (is ++ n ∷ []) → (NoneBelow r items is (n + 1) → Searched is) → Searched is
      after (inl w) more = inl (record {
        indices = w.indices;
        choice = w.choice;
        first =
            first_of_next r items is w.indices n below short w.first;
        instance = w.instance;
      })
      after (inr none) more = more (tried_chosen r items is n below none)

      by : (b : Bool) → list_any (λ j. nat_eq j n) is ≡ b → (NoneBelow r items is (n + 1) → Searched is) → Searched is
      by true f more = more (tried_taken r items is n below f)
      by false f more = after (deeper (is ++ n ∷ []) longer
          (next_choice items is (is ++ n ∷ []) n c (omega (arith, e)) f refl)) more

  search : (k : ℕ) (is : List ℕ) → length is + k ≡ length (heads_of r) → IsTrue (is_choice items [] is) → Searched is
  search zero is e c = whole is (omega (arith, e)) c
  search (suc k) is e c =
      next is (λ f. omega (arith, e, f)) c (λ js l d. search k js (omega (arith, e, l)) d) (length items) 0
      (omega arith)
      (λ i l. absurd (omega (arith, l)))

-- ---- all rules

-- the least step at s, and where it leads
abbrev pub TakesLeast : List Rule → Store → Type 0
TakesLeast rules s = (st : StepValue) × (t : Store) × IsLeastStep rules s st × LeadsTo rules st s t

-- a step that is applicable leads somewhere
pub leads_on : (rules : List Rule) (s : Store) (st : StepValue) → IsApplicable rules s st → (t : Store)
    × LeadsTo rules st s t
leads_on rules s st at =
    let v = at.instance.0 in
    let t : Store = (s ⊖ store_of (atoms_at v at.rule.removed.items)) ⊕ store_of (atoms_at v at.rule.body.items) in
    (t, (at, (v, at.instance.1, record { guard = at.instance.2; there = rw at.instance.1 at.there; after = refl })))

takes : (rules : List Rule) (s : Store) (st : StepValue) → IsLeastStep rules s st → TakesLeast rules s
takes rules s st least = let w = leads_on rules s st least.at in (st, w.0, least, w.1)

module _ (rules : List Rule) (s : Store) where
  abbrev NoneBefore : ℕ → Type 0
  NoneBefore i = (k : ℕ) (d : Rule) → k < i → HasNoStep (get_or rules k d) s

  rule_there : (rs : List Rule) (i : ℕ) → i < length rs → (r : Rule) × (r ≡ get_or rs i r)
  rule_there [] i l = absurd (omega (arith, l))
  rule_there (r ∷ rs) zero l = (r, refl)
  rule_there (r ∷ rs) (suc i) l = rule_there rs i (omega (arith, l))

  from_rule : (m i : ℕ) → i + m ≡ length rules → NoneBefore i → TakesLeast rules s ⊎ IsAtRest (Step rules) s
  from_rule zero i e below = inr (rests rules s (λ k d l. below k d (omega (arith, e, l))))
  from_rule (suc m) i e below = by (rule_there rules i (omega (arith, e))) (from_rule m (i + 1) (omega (arith, e)))
    where
      within : i < length rules
      within = omega (arith, e)

      here : (r : Rule) → r ≡ get_or rules i r → Searched r (bag.items s) []
          → (NoneBefore (i + 1) → TakesLeast rules s ⊎ IsAtRest (Step rules) s) → TakesLeast rules s
          ⊎ IsAtRest (Step rules) s
      here r is (inl w) more =
          let st : StepValue = record {
            rule = i + 1;
            heads =
                record { items = chosen_atoms (bag.items s) w.indices };
          } in
          inl (takes rules s st (least_of rules i r s (bag.items s) st within is refl below refl w.instance
          (choice_there (bag.items s) w.indices w.choice)
          (λ rising. least_found r (bag.items s) w.indices w.choice w.first rising)))
      here r is (inr none) more = more (no_step_more rules i r s (bag.items s) within is refl below
          (none_found r (bag.items s) none))

      by : (w : (r : Rule) × (r ≡ get_or rules i r)) → (NoneBefore (i + 1) → TakesLeast rules s
          ⊎ IsAtRest (Step rules) s) → TakesLeast rules s ⊎ IsAtRest (Step rules) s
      by w more = here w.0 w.1 (search w.0 (bag.items s) (length (heads_of w.0)) [] (omega arith) refl) more

  pub least_or_rest : TakesLeast rules s ⊎ IsAtRest (Step rules) s
  least_or_rest = from_rule (length rules) 0 (omega arith) (λ k d l. absurd (omega (arith, l)))

-- ---- computations

abbrev pub HasPlain : List Rule → Store → Type 0
HasPlain rules s = (steps : List StepValue) × (t : Store) × IsPlainComputation rules steps s t

module _ (rules : List Rule) (w : Atom → ℕ) (lowers : (i : ℕ) (r : Rule) → slice_get rules i ≡ Some r
    → RuleLowers w r) where
  plain_below : (n : ℕ) (s : Store) → weight_of w s < n → HasPlain rules s
  plain_below zero s l = absurd (omega (arith, l))
  plain_below (suc n) s l = by (least_or_rest rules s) (λ t h. plain_below n t h)
    where
      on : (x : TakesLeast rules s) → HasPlain rules x.1 → HasPlain rules s
      on x p = (x.0 ∷ p.0, p.1, ((x.1, x.2, x.3, p.2.0), p.2.1))

      by : TakesLeast rules s ⊎ IsAtRest (Step rules) s → ((t : Store) → weight_of w t < n → HasPlain rules t)
          → HasPlain rules s
      by (inl x) more = on x (more x.1 (let a = step_lowers w rules lowers s x.1 (LeadsTo-steps rules x.0 s x.1 x.3) in
          omega (arith, a, l)))
      by (inr rest) more = ([], s, (refl, rest))

  pub plain_there : (s : Store) → HasPlain rules s
  plain_there s = plain_below (suc (weight_of w s)) s (omega arith)

  -- a plain derivation has no more steps than its first store weighs
  pub plain_few : (steps : List StepValue) (s t : Store) → IsPlainDerivation rules steps s t
      → length steps ≤ weight_of w s
  plain_few [] s t h = omega arith
  plain_few (st ∷ steps) s t h =
      let a = step_lowers w rules lowers s h.0 (LeadsTo-steps rules st s h.0 h.2) in
      let b = plain_few steps h.0 t h.3 in
      omega (arith, a, b)
