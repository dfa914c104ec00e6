-- The tests of a clause list by list are those of its atoms and terms as one list.
use Rattle.std.proofs.Common.{◌≡◌, ℕ, ◌+◌, List, [], ◌∷◌, length, Bool, true, false, not, ◌||◌, ◌&&◌, nat_lt, Option}
use Rattle.std.proofs.Common.{Some, None, refl, sym, ap, ◌∙◌, length-append}
use Rattle.std.specs.Prelude.{option_to_list}
use Rattle.std.specs.List.{list_any, flat_map}
use Rattle.std.proofs.Math.Bool.{or_assoc, or-false}
use Rattle.std.proofs.lemmas.List.Folds.{list_any-append}
use Rattle.chr_base.specs.declared.limits.TheConstants.{MAX_BODY, MAX_COMPARISONS, MAX_HEADS}
use Rattle.chr_base.specs.ProgramTests.{Declaration}
use Rattle.chr_syntax.specs.Clauses.{Term, Atom, Symbol, Comparison, Rule, variable, number}
use Rattle.chr_read.specs.Faults.{present, rule_heads, rule_atoms, args_of, right_terms, written_terms, is_undeclared}
use Rattle.chr_read.specs.Faults.{is_same_symbol, comes_twice, is_long, is_long_variable, atom_over, rule_over}
use Rattle.chr_read.specs.Faults.{is_anonymous, is_named, is_unbound, is_outside}
use Rattle.chr_read.specs.working.RuleParts.{rule_undeclared, comes_again, comparison_over, label_over, parts_over}
use Rattle.chr_read.specs.working.RuleParts.{some_part_over, stands_in, term_unbound, rule_unbound, rule_outside}

-- ---- lists

any_flat : {A B : Type 0} (p : B → Bool) (f : A → List B) (xs : List A) → list_any p (flat_map f xs)
    ≡ list_any (λ x. list_any p (f x)) xs
any_flat p f [] = refl
any_flat p f (x ∷ xs) = list_any-append p (f x) (flat_map f xs) ∙ ap (λ b. list_any p (f x) || b) (any_flat p f xs)

any_same : {A : Type 0} (p q : A → Bool) → ((x : A) → p x ≡ q x) → (xs : List A) → list_any p xs ≡ list_any q xs
any_same p q h [] = refl
any_same p q h (x ∷ xs) = let a = h x in let b = any_same p q h xs in λ i. a i || b i

swap_or : (a b c d : Bool) → ((a || b) || (c || d)) ≡ ((a || c) || (b || d))
swap_or true b c d = refl
swap_or false true true d = refl
swap_or false true false d = refl
swap_or false false c d = refl

any_or : {A : Type 0} (p q : A → Bool) (xs : List A) → list_any (λ x. p x || q x) xs ≡ (list_any p xs || list_any q xs)
any_or p q [] = refl
any_or p q (x ∷ xs) = ap (λ b. (p x || q x) || b) (any_or p q xs) ∙ swap_or (p x) (q x) (list_any p xs) (list_any q xs)

-- ---- the atoms of a rule

any_heads : (p : Atom → Bool) (r : Rule) → list_any p (rule_heads r) ≡ (list_any p r.kept || list_any p r.removed)
any_heads p r = list_any-append p r.kept r.removed

any_atoms : (p : Atom → Bool) (r : Rule) → (list_any p r.kept || (list_any p r.removed || list_any p (present r.body)))
    ≡ list_any p (rule_atoms r)
any_atoms p r =
    sym (or_assoc (list_any p r.kept) (list_any p r.removed) (list_any p (present r.body)))
    ∙ ap (λ b. b || list_any p (present r.body)) (sym (any_heads p r))
    ∙ sym (list_any-append p (rule_heads r) (present r.body))

pub undeclared_is : (ds : List Declaration) (r : Rule) → rule_undeclared ds r ≡ list_any (is_undeclared ds)
    (rule_atoms r)
undeclared_is ds r = any_atoms (is_undeclared ds) r

-- ---- the terms of a rule

module _ (p : Term → Bool) where
  abbrev in_args : Atom → Bool
  in_args a = list_any p a.args

  abbrev in_sides : Comparison → Bool
  in_sides c = p c.left || p c.right

  any_args : (atoms : List Atom) → list_any in_args atoms ≡ list_any p (args_of atoms)
  any_args atoms = sym (any_flat p (λ a. a.args) atoms)

  any_sides : (cs : List Comparison) → list_any in_sides cs ≡ list_any p (flat_map (λ c. c.left ∷ c.right ∷ []) cs)
  any_sides cs =
      any_same in_sides (λ c. list_any p (c.left ∷ c.right ∷ []))
      (λ c. ap (λ b. p c.left || b) (sym (or-false (p c.right)))) cs
      ∙ sym (any_flat p (λ c. c.left ∷ c.right ∷ []) cs)

  any_right : (r : Rule) → (list_any in_sides (present r.guard) || list_any in_args (present r.body))
      ≡ list_any p (right_terms r)
  any_right r =
      (let a = any_sides (present r.guard) in let b = any_args (present r.body) in λ i. a i || b i)
      ∙ sym (list_any-append p (flat_map (λ c. c.left ∷ c.right ∷ []) (present r.guard)) (args_of (present r.body)))

  any_head_terms : (r : Rule) → (list_any in_args r.kept || list_any in_args r.removed)
      ≡ list_any p (args_of (rule_heads r))
  any_head_terms r = sym (any_heads in_args r) ∙ any_args (rule_heads r)

  any_terms : (r : Rule) → (list_any in_args r.kept || (list_any in_args r.removed
      || (list_any in_sides (present r.guard) || list_any in_args (present r.body)))) ≡ list_any p (written_terms r)
  any_terms r =
      sym (or_assoc (list_any in_args r.kept) (list_any in_args r.removed) _)
      ∙ (let a = any_head_terms r in let b = any_right r in λ i. a i || b i)
      ∙ sym (list_any-append p (args_of (rule_heads r)) (right_terms r))

pub outside_is : (r : Rule) → rule_outside r ≡ list_any is_outside (written_terms r)
outside_is r = any_terms is_outside r

unbound_term : (r : Rule) (t : Term) → term_unbound r t ≡ is_unbound r t
unbound_term r (number w) = refl
unbound_term r (variable w) = by (is_anonymous w)
  where
    by : (b : Bool) → not (not b && (stands_in w r.kept || stands_in w r.removed))
        ≡ (b || not (list_any (is_named w) (args_of (rule_heads r))))
    by true = refl
    by false = ap not (any_head_terms (is_named w) r)

pub unbound_is : (r : Rule) → rule_unbound r ≡ list_any (is_unbound r) (right_terms r)
unbound_is r = any_right (term_unbound r) r ∙ any_same (term_unbound r) (is_unbound r) (unbound_term r) (right_terms r)

-- ---- limits

label_is : (o : Option (List ℕ)) → label_over o ≡ list_any is_long (option_to_list o)
label_is None = refl
label_is (Some w) = sym (or-false (is_long w))

-- two tests of the heads and of the body, and one of the guard
apart : (a b c d g e f : Bool) → ((a || b) || ((c || d) || (g || (e || f))))
    ≡ ((a || (c || e)) || (b || (d || (g || f))))
apart a b c d g e f =
    ap (λ x. (a || b) || ((c || d) || x)) (swap_or false g e f) ∙ ap (λ x. (a || b) || x) (swap_or c d e (g || f))
    ∙ swap_or a b (c || e) (d || (g || f))

parts_are : (r : Rule) → parts_over r ≡ (list_any atom_over (rule_atoms r) || list_any is_long_variable
    (written_terms r))
parts_are r =
    let v : Atom → Bool = λ a. list_any is_long_variable a.args in
    let k = any_or atom_over v r.kept in let m = any_or atom_over v r.removed in let b =
    any_or atom_over v (present r.body) in
    (λ i. k i || (m i || (list_any comparison_over (present r.guard) || b i)))
    ∙ apart (list_any atom_over r.kept) (list_any v r.kept) (list_any atom_over r.removed) (list_any v r.removed)
    (list_any comparison_over (present r.guard))
    (list_any atom_over (present r.body)) (list_any v (present r.body))
    ∙ (let x = any_atoms atom_over r in let y = any_terms is_long_variable r in λ i. x i || y i)

pub over_is : (r : Rule) → some_part_over r ≡ rule_over r
over_is r =
    let heads = nat_lt MAX_HEADS (length r.kept + length r.removed) in
    let guard = nat_lt MAX_COMPARISONS (length (present r.guard)) in
    let body = nat_lt MAX_BODY (length (present r.body)) in
    let n : heads ≡ nat_lt MAX_HEADS (length (rule_heads r)) =
    ap (nat_lt MAX_HEADS) (sym (length-append r.kept r.removed)) in
    let l = label_is r.label in
    let q = parts_are r ∙ ap (λ v. list_any atom_over (rule_atoms r) || v)
    (sym (or-false (list_any is_long_variable (written_terms r)))) in
    or_assoc heads (guard || body) _ ∙ ap (λ b. heads || b) (or_assoc guard body _)
    ∙ λ i. n i || (guard || (body || (l i || q i)))

-- ---- symbols that come twice

meets : List Symbol → List Symbol → Bool
meets seen ss = list_any (λ s. list_any (λ e. is_same_symbol e s) seen) ss

again_is : (seen ss : List Symbol) → comes_again seen ss ≡ (meets seen ss || comes_twice ss)
unfolding meets
again_is seen [] = refl
again_is seen (s ∷ ss) =
    let old = list_any (λ e. is_same_symbol e s) seen in
    let m = any_or (λ t. is_same_symbol s t) (λ t. list_any (λ e. is_same_symbol e t) seen) ss in
    ap (λ b. old || b) (again_is (s ∷ seen) ss ∙ ap (λ b. b || comes_twice ss) m)
    ∙ turn old (list_any (is_same_symbol s) ss) (list_any (λ t. list_any (λ e. is_same_symbol e t) seen) ss)
    (comes_twice ss)
  where
    turn : (a b c d : Bool) → (a || ((b || c) || d)) ≡ ((a || c) || (b || d))
    turn true b c d = refl
    turn false true true d = refl
    turn false true false d = refl
    turn false false c d = refl

pub twice_is : (ss : List Symbol) → comes_again [] ss ≡ comes_twice ss
unfolding meets
twice_is ss = again_is [] ss ∙ ap (λ b. b || comes_twice ss) (none ss)
  where
    none : (ss : List Symbol) → meets [] ss ≡ false
    none [] = refl
    none (s ∷ ss) = none ss
