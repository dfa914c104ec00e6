-- A rule without faults is a rule when it is resolved.
use Rattle.std.proofs.Common.{◌≡◌, subst, ℕ, zero, suc, ◌+◌, ◌<◌, List, [], ◌∷◌, ◌++◌, length, map, Bool, true, false}
use Rattle.std.proofs.Common.{not, cond, ◌||◌, ◌&&◌, nat_lt, nat_le, Option, Some, None, is_some, is_none, slice_get}
use Rattle.std.proofs.Common.{unwrap_or, refl, sym, ap, ◌∙◌, arith}
use Rattle.std.proofs.lemmas.Bool.{false≢true, or_parts, and_from, and_parts, not-false}
use Rattle.std.proofs.lemmas.Bool.Decides.{nat_tests}
use Rattle.std.proofs.lemmas.List.{length-map}
use Rattle.std.proofs.lemmas.Option.{none-some, same_Some}
use Rattle.std.specs.Prelude.{ℤ, pos, negsuc, neg_ℤ, int_le, ◌^◌, ◌-◌, option_to_list}
use Rattle.std.specs.Str.Parse.{digits_value, starts_with_minus}
use Rattle.std.specs.List.{list_all}
use Rattle.chr_base.specs.declared.limits.TheConstants.{MAX_BODY, MAX_COMPARISONS, MAX_HEADS}
use Rattle.chr_base.specs.declared.term.Pattern.{Pattern}
use Rattle.chr_base.specs.declared.term.Term as base
use Rattle.chr_base.specs.declared.rule.Rule as base_rule
use Rattle.chr_base.specs.ProgramTests.{Declaration, takes, is_declared, fits}
use Rattle.chr_base.specs.Values.{is_value}
use Rattle.chr_base.specs.Names as names
use Rattle.chr_base.specs.Names.{is_label}
use Rattle.chr_read.specs.NamesOfForms.{names_of_atoms, has_names}
use Rattle.chr_base.specs.RuleTests.{is_bound_in, is_closed, is_valued, are_valued, is_in_bounds, is_rule}
use Rattle.chr_read.specs.Numbers.{is_numeral, unsigned, signed, number_of}
use Rattle.chr_syntax.specs.Clauses.{Term, Atom, Comparison, Rule, variable, number, rule}
use Rattle.chr_read.specs.Faults.{present, is_undeclared, is_anonymous}
use Rattle.chr_read.specs.working.RuleParts.{place_of_atom, any_undeclared, rule_undeclared, has_long_lists, label_over}
use Rattle.chr_read.specs.working.RuleParts.{parts_over, some_part_over, stands_in, is_bound, term_unbound}
use Rattle.chr_read.specs.working.RuleParts.{comparison_unbound, atom_unbound, rule_unbound, Names}
use Rattle.chr_base.specs.Sameness.{Parts, parts_of}
use Rattle.chr_read.specs.Resolving.{variable_of, resolved_term, head_terms, after_term, after_terms, pattern, heads}
use Rattle.chr_read.specs.Resolving.{after_heads, body_atom, resolved_comparison, names_of, resolved}
use Rattle.chr_read.proofs.Numbering.{numbers, occurs_in, has, met_heads, stays_heads, in_range}
use Rattle.chr_read.proofs.Positions.{declared_takes}
use Rattle.chr_read.proofs.Booleans.{all_pass}

-- ---- lengths

head_terms_length : (names : Names) (ts : List Term) → length (head_terms names ts) ≡ length ts
head_terms_length names [] = refl
head_terms_length names (t ∷ ts) = ap (λ n. suc n) (head_terms_length (after_term names t) ts)

heads_length : (ds : List Declaration) (names : Names) (atoms : List Atom) → length (heads ds names atoms)
    ≡ length atoms
heads_length ds names [] = refl
heads_length ds names (a ∷ atoms) = ap (λ n. suc n) (heads_length ds (after_terms names a.args) atoms)

-- ---- guard and body have the variables of the heads

bound_is_met : (r : Rule) (w : List ℕ) → is_bound r w ≡ true → (is_anonymous w ≡ false) × (has w (names_of r) ≡ true)
bound_is_met r w h =
    let parts = and_parts (not (is_anonymous w)) (stands_in w r.kept || stands_in w r.removed) h in
    let named = named_is (is_anonymous w) parts.0 in
    (named, by (stands_in w r.kept) refl named parts.1)
  where
    named_is : (b : Bool) → not b ≡ true → b ≡ false
    named_is true e = absurd (false≢true e)
    named_is false e = refl

    by : (b : Bool) → stands_in w r.kept ≡ b → is_anonymous w ≡ false → (b || stands_in w r.removed) ≡ true
        → has w (names_of r) ≡ true
    by true e named g = stays_heads w (after_heads [] r.kept) r.removed (met_heads w [] r.kept named e)
    by false e named g = met_heads w (after_heads [] r.kept) r.removed named g

-- ---- the name of the rule is a name of the grammar

pub label_is : (r : Rule) → some_part_over r ≡ false → has_names (rule r) ≡ true → is_label r.label ≡ true
label_is r over named =
    let o = (or_parts (label_over r.label) (parts_over r)
    (or_parts (has_long_lists r) (label_over r.label || parts_over r) over).1).0 in
    by r.label o (front (option_to_list r.label) (names_of_atoms r.kept
    ++ (names_of_atoms r.removed ++ names_of_atoms (present r.body))) named)
  where
    front : (xs ys : List (List ℕ)) → list_all names.is_name (xs ++ ys) ≡ true → list_all names.is_name xs ≡ true
    front [] ys h = refl
    front (x ∷ xs) ys h = let e = and_parts (names.is_name x) (list_all names.is_name (xs ++ ys)) h in
        and_from _ _ e.0 (front xs ys e.1)

    by : (label : Option (List ℕ)) → label_over label ≡ false → list_all names.is_name (option_to_list label) ≡ true
        → is_label label ≡ true
    by None o h = refl
    by (Some w) o h = and_from _ _ (and_parts (names.is_name w) true h).0 (grind (arith, nat_tests))

-- ---- constants are values

value_of_sign : (b : Bool) (n : ℕ) (z : ℤ) → signed b n ≡ Some z → is_value z ≡ true
value_of_sign true n z h = by n (nat_le n (2 ^ 63)) refl h
  where
    by : (n : ℕ) (t : Bool) → nat_le n (2 ^ 63) ≡ t → cond t (Some (neg_ℤ (pos n))) None ≡ Some z → is_value z ≡ true
    by n false e h = absurd (none-some z h)
    by zero true e h = subst (λ x. is_value x ≡ true) (same_Some _ _ h) refl
    by (suc m) true e h = subst (λ x. is_value x ≡ true) (same_Some _ _ h)
        (and_from (int_le (neg_ℤ (pos (2 ^ 63))) (negsuc m)) (int_le (negsuc m) (pos (2 ^ 63 - 1)))
        (let k : nat_le m 9223372036854775807 ≡ true = grind (arith, nat_tests) in k) refl)
value_of_sign false n z h = by (nat_lt n (2 ^ 63)) refl h
  where
    by : (t : Bool) → nat_lt n (2 ^ 63) ≡ t → cond t (Some (pos n)) None ≡ Some z → is_value z ≡ true
    by false e h = absurd (none-some z h)
    by true e h = subst (λ x. is_value x ≡ true) (same_Some _ _ h)
        (and_from (int_le (neg_ℤ (pos (2 ^ 63))) (pos n)) (int_le (pos n) (pos (2 ^ 63 - 1))) refl
        (let k : nat_le n 9223372036854775807 ≡ true = grind (arith, nat_tests) in k))

number_valued : (w : List ℕ) → is_value (unwrap_or (number_of w) (pos 0)) ≡ true
number_valued w = by (is_numeral (unsigned w)) refl
  where
    at : (o : Option ℤ) → ((z : ℤ) → o ≡ Some z → is_value z ≡ true) → is_value (unwrap_or o (pos 0)) ≡ true
    at None f = refl
    at (Some z) f = f z refl

    by : (t : Bool) → is_numeral (unsigned w) ≡ t → is_value
        (unwrap_or (cond t (signed (starts_with_minus w) (digits_value 10 (unsigned w))) None) (pos 0)) ≡ true
    by false e = refl
    by true e = at _ (value_of_sign (starts_with_minus w) (digits_value 10 (unsigned w)))

term_valued : (names : Names) (t : Term) → is_valued (resolved_term names t) ≡ true
term_valued names (variable w) = refl
term_valued names (number w) = number_valued w

all_map : {A B : Type 0} (q : B → Bool) (f : A → B) → ((x : A) → q (f x) ≡ true) → (xs : List A) → list_all q (map f xs)
    ≡ true
all_map q f good [] = refl
all_map q f good (x ∷ xs) = and_from _ _ (good x) (all_map q f good xs)

head_valued : (names : Names) (ts : List Term) → list_all is_valued (head_terms names ts) ≡ true
head_valued names [] = refl
head_valued names (t ∷ ts) = and_from _ _ (term_valued names t) (head_valued (after_term names t) ts)

heads_valued : (ds : List Declaration) (names : Names) (atoms : List Atom) → are_valued (heads ds names atoms) ≡ true
heads_valued ds names [] = refl
heads_valued ds names (a ∷ atoms) = and_from _ _ (head_valued names a.args)
    (heads_valued ds (after_terms names a.args) atoms)

are_valued-append : (ps qs : List Pattern) → are_valued ps ≡ true → are_valued qs ≡ true → are_valued (ps ++ qs) ≡ true
are_valued-append [] qs h g = g
are_valued-append (p ∷ ps) qs h g = let e = and_parts (list_all is_valued p.args.items) (are_valued ps) h in
    and_from _ _ e.0 (are_valued-append ps qs e.1 g)

module _ (ds : List Declaration) (r : Rule) where
  abbrev all_heads : List Pattern
  all_heads = heads ds [] r.kept ++ heads ds (after_heads [] r.kept) r.removed

  known_term : (t : Term) → term_unbound r t ≡ false → is_bound_in all_heads (resolved_term (names_of r) t) ≡ true
  known_term (number w) h = refl
  known_term (variable w) h =
      let met = bound_is_met r w (not-false (is_bound r w) h) in
      let range = in_range w (names_of r) met.0 met.1 in
      occurs_in all_heads (length (names_of r)) (numbers ds r.kept r.removed) (variable_of (names_of r) w) range.0
      range.1

  known_comparison : (c : Comparison) → comparison_unbound r c ≡ false
      → (is_bound_in all_heads (resolved_comparison (names_of r) c).left
      && is_bound_in all_heads (resolved_comparison (names_of r) c).right) ≡ true
  known_comparison c h = let n = or_parts _ _ h in and_from _ _ (known_term c.left n.0) (known_term c.right n.1)

  known_atom : (a : Atom) → atom_unbound r a ≡ false → list_all (is_bound_in all_heads)
      (body_atom ds (names_of r) a).args.items ≡ true
  known_atom a h = all_pass (term_unbound r) (resolved_term (names_of r)) (is_bound_in all_heads) known_term a.args h

  closed : rule_unbound r ≡ false → is_closed all_heads (resolved ds r).guard (resolved ds r).body ≡ true
  closed h =
      let n = or_parts _ _ h in
      and_from _ _
      (all_pass (comparison_unbound r) (resolved_comparison (names_of r))
      (λ c. is_bound_in all_heads c.left && is_bound_in all_heads c.right) known_comparison (present r.guard) n.0)
      (all_pass (atom_unbound r) (body_atom ds (names_of r)) (λ p. list_all (is_bound_in all_heads) p.args.items)
      known_atom (present r.body) n.1)

  few_heads : some_part_over r ≡ false → nat_le (length (resolved ds r).kept + length (resolved ds r).removed) MAX_HEADS
      ≡ true
  few_heads h =
      let lists = (or_parts (has_long_lists r) (label_over r.label || parts_over r) h).0 in
      let over = (or_parts (nat_lt MAX_HEADS (length r.kept + length r.removed))
      (nat_lt MAX_COMPARISONS (length (present r.guard)) || nat_lt MAX_BODY (length (present r.body))) lists).0 in
      let a = heads_length ds [] r.kept in
      let b = heads_length ds (after_heads [] r.kept) r.removed in
      grind (arith, nat_tests)

  few_items : some_part_over r ≡ false → (nat_le (length (resolved ds r).guard) MAX_COMPARISONS
      && nat_le (length (resolved ds r).body) MAX_BODY) ≡ true
  few_items h =
      let lists = (or_parts (has_long_lists r) (label_over r.label || parts_over r) h).0 in
      let over = or_parts (nat_lt MAX_COMPARISONS (length (present r.guard)))
      (nat_lt MAX_BODY (length (present r.body))) (or_parts (nat_lt MAX_HEADS (length r.kept + length r.removed)) _
      lists).1 in
      and_from (nat_le (length (resolved ds r).guard) MAX_COMPARISONS) (nat_le (length (resolved ds r).body) MAX_BODY)
      (let a = length-map (present r.guard) (resolved_comparison (names_of r)) in let b = over.0 in
      grind (arith, nat_tests))
      (let a = length-map (present r.body) (body_atom ds (names_of r)) in let b = over.1 in grind (arith, nat_tests))

  valued : (are_valued all_heads && list_all (λ c. is_valued c.left && is_valued c.right) (resolved ds r).guard
      && are_valued (resolved ds r).body) ≡ true
  valued =
      and_from _ _
      (and_from _ _ (are_valued-append (heads ds [] r.kept) (heads ds (after_heads [] r.kept) r.removed)
      (heads_valued ds [] r.kept) (heads_valued ds (after_heads [] r.kept) r.removed))
      (all_map _ _ (λ c. and_from _ _ (term_valued (names_of r) c.left) (term_valued (names_of r) c.right))
      (present r.guard)))
      (all_map _ _ (λ a. all_map is_valued (resolved_term (names_of r)) (term_valued (names_of r)) a.args)
      (present r.body))

  some_head : 0 < length r.removed → nat_lt 0 (length (resolved ds r).removed) ≡ true
  some_head h = let b = heads_length ds (after_heads [] r.kept) r.removed in grind (arith, nat_tests)

  pub resolved_is_rule : some_part_over r ≡ false → rule_unbound r ≡ false → 0 < length r.removed
      → is_rule (resolved ds r).kept (resolved ds r).removed (resolved ds r).guard (resolved ds r).body ≡ true
  resolved_is_rule over unbound some =
      and_from _ _ (and_from _ _ (and_from _ _ (some_head some) (few_heads over)) (closed unbound))
      (ap is_some (numbers ds r.kept r.removed))

  pub resolved_in_bounds : some_part_over r ≡ false → has_names (rule r) ≡ true
      → is_in_bounds (resolved ds r).name all_heads (resolved ds r).guard (resolved ds r).body ≡ true
  unfolding is_in_bounds
  resolved_in_bounds over named = let few = and_parts _ _ (few_items over) in
      and_from _ _ (and_from _ _ (and_from _ _ (label_is r over named) few.0) few.1) valued

-- ---- the atoms of the rule are declared

declared_pattern : (ds : List Declaration) (a : Atom) (ts : List base.Term) → length ts ≡ length a.args
    → is_undeclared ds a ≡ false → is_declared ds (pattern ds a ts) ≡ true
declared_pattern ds a ts long h = by (place_of_atom ds a) refl h
  where
    by : (o : Option ℕ) → place_of_atom ds a ≡ o → is_none o ≡ false → is_declared ds (pattern ds a ts) ≡ true
    by None is e = absurd (false≢true (sym e))
    by (Some i) is e =
        ap (λ p. takes (slice_get ds (unwrap_or p 0)) (length ts)) is ∙ ap (takes (slice_get ds i)) long
        ∙ declared_takes a.name (length a.args) ds i is

heads_declared : (ds : List Declaration) (names : Names) (atoms : List Atom) → any_undeclared ds atoms ≡ false
    → list_all (is_declared ds) (heads ds names atoms) ≡ true
heads_declared ds names [] h = refl
heads_declared ds names (a ∷ atoms) h =
    let n = or_parts _ _ h in
    and_from _ _ (declared_pattern ds a (head_terms names a.args) (head_terms_length names a.args) n.0)
    (heads_declared ds (after_terms names a.args) atoms n.1)

abbrev fits_so : List Declaration → Parts → Bool
fits_so ds d = list_all (is_declared ds) d.kept && list_all (is_declared ds) d.removed
    && list_all (is_declared ds) d.body

fits_resolved : (ds : List Declaration) (r : Rule) → rule_undeclared ds r ≡ false → fits_so ds (resolved ds r) ≡ true
fits_resolved ds r h =
    let n = or_parts (any_undeclared ds r.kept) _ h in
    let m = or_parts (any_undeclared ds r.removed) _ n.1 in
    and_from _ _ (and_from _ _ (heads_declared ds [] r.kept n.0)
    (heads_declared ds (after_heads [] r.kept) r.removed m.0))
    (all_pass (is_undeclared ds) (body_atom ds (names_of r)) (is_declared ds)
    (λ a e. declared_pattern ds a (map (resolved_term (names_of r)) a.args)
    (length-map a.args (resolved_term (names_of r))) e) (present r.body) m.1)

pub resolved_fits : (ds : List Declaration) (r : Rule) (made : base_rule.Rule) → parts_of made ≡ resolved ds r
    → rule_undeclared ds r ≡ false → fits ds made ≡ true
resolved_fits ds r made is h = ap (fits_so ds) is ∙ fits_resolved ds r h
