-- A map of values that keeps their order on a set of values, and fixes the constants, carries steps to steps.
use Rattle.std.specs.Prelude.{◌≡◌, ℕ, ℤ, Bool, true, false, ◌&&◌, ◌||◌, nat_eq, List, [], ◌∷◌, ◌++◌, map}
use Rattle.std.specs.List.{list_all, list_any}
use Rattle.std.proofs.Common.{refl, sym, subst, ◌∙◌, inl, inr}
use mathlib.Core.Bool.{true≢false}
use Rattle.std.proofs.lemmas.Bool.{eqb-true, and_from, and_parts}
use Rattle.std.specs.Ordering.{int_cmp}
use Rattle.chr_base.specs.declared.atom.Atom.{Atom}
use Rattle.chr_base.specs.declared.term.Term.{Term}
use Rattle.chr_base.specs.declared.term.Term.TheVariants.{Variable, Constant}
use Rattle.chr_base.specs.declared.term.Comparison.{Comparison}
use Rattle.chr_base.specs.declared.term.Pattern.{Pattern}
use Rattle.chr_base.specs.declared.rule.Rule.{Rule}
use Rattle.chr_base.specs.Stores.{Store, store_of}
use Rattle.chr_base.specs.RuleTests.{is_variable, occurs, is_bound_in, terms_of}
use Rattle.chr_base.proofs.Instances.{guard_known, body_known}
use Rattle.chr_base.specs.Rules.{StepBy, Valuation, term_value, atoms_at, compares, guard_holds, heads_at, heads_of}
use Rattle.chr_base.proofs.Terms.{terms_of-append}
use Rattle.chr_base.specs.FinBag.{◌⊕◌, ◌⊖◌, IsWithin}
use Rattle.chr_base.specs.Values.{Each, args_in}
use Rattle.chr_confluence.specs.Constants.{guard_terms}
use Rattle.chr_confluence.specs.Images.{Carries}
use Rattle.chr_confluence.proofs.Carrying.{image_plus, image_list, image_minus, step_carried}
use Rattle.chr_confluence.specs.Rising.{KeepsOrder, FixesTerms, FixesRule, rename_atom, rename}
use Rattle.chr_types.proofs.Members.{in_first, in_second}
use Rattle.chr_base.proofs.Each.{each_of_list, list_of_each, each_within, each_plus, each_minus}

-- ---- renamed stores

pub rename_plus : (f : ℤ → ℤ) (s t : Store) → rename f (s ⊕ t) ≡ rename f s ⊕ rename f t
rename_plus f s t = image_plus (rename_atom f) s t

pub rename_list : (f : ℤ → ℤ) (xs : List Atom) → rename f (store_of xs) ≡ store_of (map (rename_atom f) xs)
rename_list f xs = image_list (rename_atom f) xs

pub rename_minus : (f : ℤ → ℤ) (r s : Store) → IsWithin r s → rename f (s ⊖ r) ≡ rename f s ⊖ rename f r
rename_minus f r s h = image_minus (rename_atom f) s r h

-- ---- rules

module _ (f : ℤ → ℤ) (d : ℤ → Bool) where
  abbrev FixesTerm : Term → Type 0
  FixesTerm t = (c : ℤ) → Constant c ≡ t → (d c ≡ true) × (f c ≡ c)

  fixes_left : (ts us : List Term) → FixesTerms f d (ts ++ us) → FixesTerms f d ts
  fixes_left ts us h c i = h c (in_first (Constant c) ts us i)

  fixes_right : (ts us : List Term) → FixesTerms f d (ts ++ us) → FixesTerms f d us
  fixes_right ts us h c i = h c (in_second (Constant c) ts us i)

  fixes_both : (r : Rule) → FixesRule f d r → FixesTerms f d (terms_of (heads_of r) ++ guard_terms r.guard.items)
  fixes_both r h = fixes_left (terms_of (heads_of r) ++ guard_terms r.guard.items) (terms_of r.body.items) h

  pub fixes_heads : (r : Rule) → FixesRule f d r → FixesTerms f d (terms_of (heads_of r))
  fixes_heads r h = fixes_left (terms_of (heads_of r)) (guard_terms r.guard.items) (fixes_both r h)

  pub fixes_guard : (r : Rule) → FixesRule f d r → FixesTerms f d (guard_terms r.guard.items)
  fixes_guard r h = fixes_right (terms_of (heads_of r)) (guard_terms r.guard.items) (fixes_both r h)

  pub fixes_body : (r : Rule) → FixesRule f d r → FixesTerms f d (terms_of r.body.items)
  fixes_body r h = fixes_right (terms_of (heads_of r) ++ guard_terms r.guard.items) (terms_of r.body.items) h

  pub fixes_kept : (r : Rule) → FixesRule f d r → FixesTerms f d (terms_of r.kept.items)
  fixes_kept r h =
      fixes_left (terms_of r.kept.items) (terms_of r.removed.items)
      (subst (FixesTerms f d) (terms_of-append r.kept.items r.removed.items) (fixes_heads r h))

  pub fixes_removed : (r : Rule) → FixesRule f d r → FixesTerms f d (terms_of r.removed.items)
  fixes_removed r h =
      fixes_right (terms_of r.kept.items) (terms_of r.removed.items)
      (subst (FixesTerms f d) (terms_of-append r.kept.items r.removed.items) (fixes_heads r h))

  value_moves : (v : Valuation) (t : Term) → FixesTerm t → term_value (λ x. f (v x)) t ≡ f (term_value v t)
  value_moves v (Variable x) h = refl
  value_moves v (Constant c) h = sym (h c refl).1

  values_move : (v : Valuation) (ts : List Term) → FixesTerms f d ts → map (term_value (λ x. f (v x))) ts
      ≡ map f (map (term_value v) ts)
  values_move v [] h = refl
  values_move v (t ∷ ts) h = λ i. value_moves v t (λ c e. h c (inl e)) i ∷ values_move v ts (λ c g. h c (inr g)) i

  pub atoms_move : (v : Valuation) (ps : List Pattern) → FixesTerms f d (terms_of ps) → atoms_at (λ x. f (v x)) ps
      ≡ map (rename_atom f) (atoms_at v ps)
  atoms_move v [] h = refl
  atoms_move v (p ∷ ps) h =
      λ i. record {
        symbol = p.symbol;
        args = record {
          items =
              values_move v p.args.items (fixes_left p.args.items (terms_of ps) h) i;
        };
      }
      ∷ atoms_move v ps (fixes_right p.args.items (terms_of ps) h) i

  value_found : (v : Valuation) (x : ℕ) (ts : List Term) → list_any (is_variable x) ts ≡ true
      → list_all d (map (term_value v) ts) ≡ true → d (v x) ≡ true
  value_found v x [] h g = absurd (true≢false (sym h))
  value_found v x (Constant c ∷ ts) h g = value_found v x ts h ((and_parts _ _ g).1)
  value_found v x (Variable y ∷ ts) h g =
      elim (nat_eq x y) as (λ b. nat_eq x y ≡ b → (b || list_any (is_variable x) ts) ≡ true → d (v x) ≡ true) [
        | true ↦ λ e _. (let same : x ≡ y = eqb-true x y e in rw same ((and_parts _ _ g).0))
        | false ↦ λ e h. value_found v x ts h ((and_parts _ _ g).1)
      ] refl h

  pub pattern_found : (v : Valuation) (x : ℕ) (ps : List Pattern) → occurs x ps ≡ true
      → list_all (args_in d) (atoms_at v ps) ≡ true → d (v x) ≡ true
  pattern_found v x [] h g = absurd (true≢false (sym h))
  pattern_found v x (p ∷ ps) h g =
      elim (list_any (is_variable x) p.args.items) as (λ b. list_any (is_variable x) p.args.items ≡ b
      → (b || occurs x ps) ≡ true → d (v x) ≡ true) [
        | true ↦ λ e _. value_found v x p.args.items e ((and_parts _ _ g).0)
        | false ↦ λ e h. pattern_found v x ps h ((and_parts _ _ g).1)
      ] refl h

  known_in : (v : Valuation) (ps : List Pattern) (t : Term) → list_all (args_in d) (atoms_at v ps) ≡ true
      → is_bound_in ps t ≡ true → FixesTerm t → d (term_value v t) ≡ true
  known_in v ps (Variable x) g k h = pattern_found v x ps k g
  known_in v ps (Constant c) g k h = (h c refl).0

  module _ (keeps : KeepsOrder f d) where
    pub guard_moves : (v : Valuation) (ps : List Pattern) (cs : List Comparison) → list_all (args_in d) (atoms_at v ps)
        ≡ true
        → list_all (λ c. is_bound_in ps c.left && is_bound_in ps c.right) cs ≡ true → FixesTerms f d (guard_terms cs)
        → guard_holds (λ x. f (v x)) cs ≡ guard_holds v cs
    guard_moves v ps [] g k h = refl
    guard_moves v ps (c ∷ cs) g k h =
        let here : (is_bound_in ps c.left && is_bound_in ps c.right) ≡ true = (and_parts _ _ k).0 in
        let more : list_all (λ c. is_bound_in ps c.left && is_bound_in ps c.right) cs ≡ true =
        (and_parts (is_bound_in ps c.left && is_bound_in ps c.right) _ k).1 in
        let left : FixesTerm c.left = λ x e. h x (inl e) in
        let right : FixesTerm c.right = λ x e. h x (inr (inl e)) in
        let order : int_cmp (term_value (λ x. f (v x)) c.left) (term_value (λ x. f (v x)) c.right)
        ≡ int_cmp (term_value v c.left) (term_value v c.right) =
        (λ i. int_cmp (value_moves v c.left left i) (value_moves v c.right right i))
        ∙ keeps _ _ (known_in v ps c.left g ((and_parts _ _ here).0) left)
        (known_in v ps c.right g ((and_parts (is_bound_in ps c.left) _ here).1) right) in
        let rest = guard_moves v ps cs g more (λ x i. h x (inr (inr i))) in
        λ i. compares c.cmp (order i) && rest i

  body_in : (v : Valuation) (ps qs : List Pattern) → list_all (args_in d) (atoms_at v ps) ≡ true
      → list_all (λ p. list_all (is_bound_in ps) p.args.items) qs ≡ true → FixesTerms f d (terms_of qs)
      → list_all (args_in d) (atoms_at v qs) ≡ true
  body_in v ps [] g k h = refl
  body_in v ps (q ∷ qs) g k h =
      and_from _ _ (terms_in q.args.items ((and_parts _ _ k).0) (fixes_left q.args.items (terms_of qs) h))
      (body_in v ps qs g ((and_parts (list_all (is_bound_in ps) q.args.items) _ k).1)
      (fixes_right q.args.items (terms_of qs) h))
    where
      terms_in : (ts : List Term) → list_all (is_bound_in ps) ts ≡ true → FixesTerms f d ts
          → list_all d (map (term_value v) ts) ≡ true
      terms_in [] k h = refl
      terms_in (t ∷ ts) k h = and_from _ _ (known_in v ps t g ((and_parts _ _ k).0) (λ c e. h c (inl e)))
          (terms_in ts ((and_parts (is_bound_in ps t) _ k).1) (λ c i. h c (inr i)))

  heads_in : (r : Rule) (v : Valuation) (s t : Store) → Each (args_in d) s → StepBy r v s t
      → list_all (args_in d) (heads_at v r) ≡ true
  heads_in r v s t each st = list_of_each (args_in d) (heads_at v r) (each_within (args_in d) _ s st.there each)

  -- a step brings in no value that is neither in the store nor a constant of the rule
  pub values_kept : (r : Rule) (v : Valuation) (s t : Store) → FixesRule f d r → Each (args_in d) s → StepBy r v s t
      → Each (args_in d) t
  values_kept r v s t fixes each st =
      rw st.after (each_plus (args_in d) _ _ (each_minus (args_in d) s _ each)
      (each_of_list (args_in d) _ (body_in v (heads_of r) r.body.items (heads_in r v s t each st) (body_known r)
      (fixes_body r fixes))))

  -- the instance of a step from a store with values in the set is carried to that of the mapped values
  pub rising_carries : KeepsOrder f d → (r : Rule) (v : Valuation) (s t : Store) → FixesRule f d r → Each (args_in d) s
      → StepBy r v s t → Carries (rename_atom f) r v (λ x. f (v x))
  rising_carries keeps r v s t fixes each st = record {
    kept = sym (atoms_move v r.kept.items (fixes_kept r fixes));
    removed = sym (atoms_move v r.removed.items (fixes_removed r fixes));
    body = sym (atoms_move v r.body.items (fixes_body r fixes));
    guard = guard_moves keeps v (heads_of r) r.guard.items (heads_in r v s t each st) (guard_known r)
        (fixes_guard r fixes) ∙ st.guard;
  }

  -- a step of a rule is a step of it between the renamed stores
  pub rising : KeepsOrder f d → (r : Rule) (v : Valuation) (s t : Store) → FixesRule f d r → Each (args_in d) s
      → StepBy r v s t → StepBy r (λ x. f (v x)) (rename f s) (rename f t)
  rising keeps r v s t fixes each st = step_carried (rename_atom f) r v (λ x. f (v x)) s t
      (rising_carries keeps r v s t fixes each st) st
