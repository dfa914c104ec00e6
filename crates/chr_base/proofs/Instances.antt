-- The valuation that given heads make is that of each instance with them; and what each rule keeps, part by part.
use Rattle.std.specs.Prelude.{◌≡◌, ℕ, pos, Bool, true, false, ◌&&◌, ◌||◌, cond, List, [], ◌∷◌, map, nat_eq, Some, None}
use Rattle.std.specs.Prelude.{length, ◌+◌, ◌≤◌, nat_lt, nat_le}
use Rattle.std.specs.Option.{unwrap_or, option_map, option_or}
use Rattle.std.specs.List.{list_any, list_all}
use Rattle.std.proofs.Common.{refl, sym, ap, subst, ◌∙◌, arith, length-append}
use mathlib.Core.Bool.{true≢false}
use Rattle.std.proofs.lemmas.Bool.{eqb-true, eq-eqb, and_from, and_parts, leb-true}
use Rattle.std.specs.Ordering.{int_cmp, eq_by_cmp}
use Rattle.std.specs.Cmp.{tied_itself}
use Rattle.chr_base.specs.declared.limits.TheConstants.{MAX_HEADS, MAX_COMPARISONS, MAX_BODY}
use Rattle.chr_base.specs.declared.atom.Atom.{Atom}
use Rattle.chr_base.specs.declared.term.Term.{Term}
use Rattle.chr_base.specs.declared.term.Term.TheVariants.{Variable, Constant}
use Rattle.chr_base.specs.declared.term.Comparison.{Comparison}
use Rattle.chr_base.specs.declared.term.Pattern.{Pattern}
use Rattle.chr_base.specs.declared.rule.Rule.{Rule}
use Rattle.chr_base.specs.Atoms.{atom_cmp}
use Rattle.chr_base.specs.working.Instances.{first_value, value_among, valuation, agree, fires}
use Rattle.chr_base.proofs.Atoms.{atom_total, same_is}
use Rattle.chr_base.specs.RuleTests.{is_variable, occurs, is_bound_in, is_closed, is_numbered, is_valued, are_valued}
use Rattle.chr_base.specs.RuleTests.{is_in_bounds}
use Rattle.chr_base.specs.Names.{is_label}
use Rattle.chr_base.specs.Rules.{Valuation, HasInstance, term_value, atom_at, atoms_at, guard_holds, heads_at, heads_of}
use Rattle.chr_base.specs.Rules.{compares}

-- two valuations agree on the variables of these patterns
abbrev pub SameOn : List Pattern → Valuation → Valuation → Type 0
SameOn ps v w = (x : ℕ) → occurs x ps ≡ true → v x ≡ w x

pub same_value : (ps : List Pattern) (v w : Valuation) (t : Term) → SameOn ps v w → is_bound_in ps t ≡ true
    → term_value v t ≡ term_value w t
same_value ps v w (Variable x) h k = h x k
same_value ps v w (Constant c) h k = refl

same_values : (ps : List Pattern) (v w : Valuation) (ts : List Term) → SameOn ps v w → list_all (is_bound_in ps) ts
    ≡ true → map (term_value v) ts ≡ map (term_value w) ts
same_values ps v w [] h k = refl
same_values ps v w (t ∷ ts) h k = λ i. same_value ps v w t h ((and_parts _ _ k).0) i ∷ same_values ps v w ts h
    ((and_parts _ _ k).1) i

pub same_atoms : (ps qs : List Pattern) (v w : Valuation) → SameOn ps v w
    → list_all (λ p. list_all (is_bound_in ps) p.args.items) qs ≡ true → atoms_at v qs ≡ atoms_at w qs
same_atoms ps [] v w h k = refl
same_atoms ps (q ∷ qs) v w h k = λ i. record {
  symbol = q.symbol;
  args =
      record { items = same_values ps v w q.args.items h ((and_parts _ _ k).0) i };
}
    ∷ same_atoms ps qs v w h ((and_parts _ _ k).1) i

pub same_guard : (ps : List Pattern) (v w : Valuation) (cs : List Comparison) → SameOn ps v w
    → list_all (λ c. is_bound_in ps c.left && is_bound_in ps c.right) cs ≡ true → guard_holds v cs ≡ guard_holds w cs
same_guard ps v w [] h k = refl
same_guard ps v w (c ∷ cs) h k =
    let here : (is_bound_in ps c.left && is_bound_in ps c.right) ≡ true = (and_parts _ _ k).0 in
    let more : list_all (λ c. is_bound_in ps c.left && is_bound_in ps c.right) cs ≡ true =
    (and_parts (is_bound_in ps c.left && is_bound_in ps c.right) _ k).1 in
    let one = same_value ps v w c.left h ((and_parts _ _ here).0) in
    let two = same_value ps v w c.right h ((and_parts (is_bound_in ps c.left) _ here).1) in
    let rest = same_guard ps v w cs h more in
    λ i. compares c.cmp (int_cmp (one i) (two i)) && rest i

-- the heads of an instance give each variable that stands in them its value
first_value_at : (w : Valuation) (ts : List Term) (x : ℕ) → first_value ts (map (term_value w) ts) x
    ≡ cond (list_any (is_variable x) ts) (Some (w x)) None
first_value_at w [] x = refl
first_value_at w (Constant c ∷ ts) x = first_value_at w ts x
first_value_at w (Variable y ∷ ts) x = by (nat_eq x y) refl (first_value_at w ts x)
  where
    by : (b : Bool) → nat_eq x y ≡ b → first_value ts (map (term_value w) ts) x ≡ cond (list_any (is_variable x) ts)
        (Some (w x)) None
        → cond (nat_eq x y) (Some (w y)) (first_value ts (map (term_value w) ts) x)
        ≡ cond (nat_eq x y || list_any (is_variable x) ts) (Some (w x)) None
    by true e more = rw e (ap (λ z. Some (w z)) (sym (eqb-true x y e)))
    by false e more = rw e more

value_at : (w : Valuation) (ps : List Pattern) (x : ℕ) → value_among ps (atoms_at w ps) x
    ≡ cond (occurs x ps) (Some (w x)) None
value_at w [] x = refl
value_at w (p ∷ ps) x = rw (first_value_at w p.args.items x)
    (by (list_any (is_variable x) p.args.items) (value_at w ps x))
  where
    by : (b : Bool) → value_among ps (atoms_at w ps) x ≡ cond (occurs x ps) (Some (w x)) None
        → option_or (cond b (Some (w x)) None) (value_among ps (atoms_at w ps) x) ≡ cond (b || occurs x ps)
        (Some (w x)) None
    by true more = refl
    by false more = more

pub valuation_at : (w : Valuation) (ps : List Pattern) → SameOn ps (valuation ps (atoms_at w ps)) w
valuation_at w ps x o = ap (λ m. unwrap_or m (pos 0)) (value_at w ps x ∙ ap (λ b. cond b (Some (w x)) None) o)

-- each variable of these patterns is known in them
known_terms : (ps : List Pattern) (ts : List Term) → ((x : ℕ) → list_any (is_variable x) ts ≡ true → occurs x ps ≡ true)
    → list_all (is_bound_in ps) ts ≡ true
known_terms ps [] h = refl
known_terms ps (Constant c ∷ ts) h = known_terms ps ts h
known_terms ps (Variable y ∷ ts) h =
    and_from _ _ (h y (let e : nat_eq y y ≡ true = eq-eqb y y refl in rw e refl))
    (known_terms ps ts (λ x o. h x (later x o)))
  where
    later : (x : ℕ) → list_any (is_variable x) ts ≡ true → (nat_eq x y || list_any (is_variable x) ts) ≡ true
    later x o = elim (nat_eq x y) as (λ b. (b || list_any (is_variable x) ts) ≡ true) [ true ↦ refl | false ↦ o ]

known_among : (ps qs : List Pattern) → ((x : ℕ) → occurs x qs ≡ true → occurs x ps ≡ true)
    → list_all (λ p. list_all (is_bound_in ps) p.args.items) qs ≡ true
known_among ps [] h = refl
known_among ps (q ∷ qs) h =
    and_from _ _ (known_terms ps q.args.items (λ x o. h x (let e : list_any (is_variable x) q.args.items ≡ true = o in
    rw e refl)))
    (known_among ps qs (λ x o. h x (elim (list_any (is_variable x) q.args.items) as (λ b. (b || occurs x qs) ≡ true)
    [ true ↦ refl | false ↦ o ])))

pub known_itself : (ps : List Pattern) → list_all (λ p. list_all (is_bound_in ps) p.args.items) ps ≡ true
known_itself ps = known_among ps ps (λ x o. o)

agree_sound : (v : Valuation) (ps : List Pattern) (as' : List Atom) → agree v ps as' ≡ true → atoms_at v ps ≡ as'
agree_sound v [] [] h = refl
agree_sound v [] (a ∷ as') h = absurd (true≢false (sym h))
agree_sound v (p ∷ ps) [] h = absurd (true≢false (sym h))
agree_sound v (p ∷ ps) (a ∷ as') h = λ i. same_is (atom_at v p) a ((and_parts _ _ h).0) i
    ∷ agree_sound v ps as' ((and_parts _ _ h).1) i

agree_itself : (v : Valuation) (ps : List Pattern) → agree v ps (atoms_at v ps) ≡ true
agree_itself v [] = refl
agree_itself v (p ∷ ps) = and_from _ _ (by (atom_at v p)) (agree_itself v ps)
  where
    by : (a : Atom) → eq_by_cmp atom_cmp a a ≡ true
    by a = rw (tied_itself atom_total a) refl

pub fires_sound : (r : Rule) (heads : List Atom) → fires r heads ≡ true → HasInstance r heads
fires_sound r heads h = (
  valuation (heads_of r) heads,
  agree_sound _ (heads_of r) heads ((and_parts _ _ h).0),
  (and_parts _ _ h).1,
)

-- The valuation that the heads give is that of the instance, on the rule's variables.
pub the_valuation : (r : Rule) (heads : List Atom) (w : Valuation) → heads_at w r ≡ heads
    → SameOn (heads_of r) (valuation (heads_of r) heads) w
the_valuation r heads w e = subst (λ as'. SameOn (heads_of r) (valuation (heads_of r) as') w) e
    (valuation_at w (heads_of r))

-- ---- what every rule keeps, part by part

module _ (r : Rule) where
  abbrev sized : Bool
  sized = nat_lt 0 (length r.removed.items) && nat_le (length r.kept.items + length r.removed.items) MAX_HEADS

  abbrev shape : Bool
  shape = sized && is_closed (heads_of r) r.guard.items r.body.items && is_numbered (heads_of r)

  shaped : shape ≡ true
  shaped = r.well_formed

  pub sized_rule : sized ≡ true
  sized_rule = (and_parts _ (is_closed (heads_of r) r.guard.items r.body.items)
      ((and_parts _ (is_numbered (heads_of r)) shaped).0)).0

  pub closed_rule : is_closed (heads_of r) r.guard.items r.body.items ≡ true
  closed_rule = (and_parts sized _ ((and_parts _ (is_numbered (heads_of r)) shaped).0)).1

  pub numbered_rule : is_numbered (heads_of r) ≡ true
  numbered_rule = (and_parts (sized && is_closed (heads_of r) r.guard.items r.body.items) _ shaped).1

  abbrev few : Bool
  few = is_label (option_map (λ n. n.bytes) r.name) && nat_le (length r.guard.items) MAX_COMPARISONS
      && nat_le (length r.body.items) MAX_BODY

  abbrev constants : Bool
  constants = are_valued (heads_of r) && list_all (λ c. is_valued c.left && is_valued c.right) r.guard.items
      && are_valued r.body.items

  opened : (few && constants) ≡ true
  unfolding is_in_bounds
  opened = r.bounded

  pub few_rule : few ≡ true
  few_rule = (and_parts _ constants opened).0

  pub valued_rule : constants ≡ true
  valued_rule = (and_parts few _ opened).1

pub guard_known : (r : Rule) → list_all (λ c. is_bound_in (heads_of r) c.left && is_bound_in (heads_of r) c.right)
    r.guard.items ≡ true
guard_known r = (and_parts _ (list_all (λ p. list_all (is_bound_in (heads_of r)) p.args.items) r.body.items)
    (closed_rule r)).0

pub body_known : (r : Rule) → list_all (λ p. list_all (is_bound_in (heads_of r)) p.args.items) r.body.items ≡ true
body_known r = (and_parts (list_all (λ c. is_bound_in (heads_of r) c.left && is_bound_in (heads_of r) c.right)
    r.guard.items) _ (closed_rule r)).1

pub fires_complete : (r : Rule) (heads : List Atom) → HasInstance r heads → fires r heads ≡ true
fires_complete r heads h =
    let same = the_valuation r heads h.0 h.1 in
    let heads_are : atoms_at (valuation (heads_of r) heads) (heads_of r) ≡ heads =
    same_atoms (heads_of r) (heads_of r) _ h.0 same (known_itself (heads_of r)) ∙ h.1 in
    and_from (agree (valuation (heads_of r) heads) (heads_of r) heads)
    (guard_holds (valuation (heads_of r) heads) r.guard.items)
    (subst (λ as'. agree (valuation (heads_of r) heads) (heads_of r) as' ≡ true) heads_are
    (agree_itself (valuation (heads_of r) heads) (heads_of r)))
    (same_guard (heads_of r) _ h.0 r.guard.items same (guard_known r) ∙ h.2)

-- the body is the same under each valuation that makes these heads
pub body_is : (r : Rule) (heads : List Atom) (w : Valuation) → heads_at w r ≡ heads
    → atoms_at (valuation (heads_of r) heads) r.body.items ≡ atoms_at w r.body.items
body_is r heads w e = same_atoms (heads_of r) r.body.items _ w (the_valuation r heads w e) (body_known r)

-- a rule has few heads
pub heads_few : (r : Rule) → length (heads_of r) ≤ MAX_HEADS
heads_few r =
    let n = length-append r.kept.items r.removed.items in
    let few = leb-true _ _ (and_parts (nat_lt 0 (length r.removed.items)) _ (sized_rule r)).1 in
    omega (arith, n, few)

-- two valuations that make the same heads of a rule agree on its variables
pub same_on : (r : Rule) (heads : List Atom) (v w : Valuation) → heads_at v r ≡ heads → heads_at w r ≡ heads
    → SameOn (heads_of r) v w
same_on r heads v w e f = λ x o. sym (the_valuation r heads v e x o) ∙ the_valuation r heads w f x o
