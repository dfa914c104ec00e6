-- One number is one variable.
use Rattle.std.proofs.Common.{◌≡◌, ℕ, zero, suc, ◌+◌, ◌<◌, List, [], ◌∷◌, ◌++◌, length, Bool, true, false, cond, Option}
use Rattle.std.proofs.Common.{Some, None, option_map, is_some, unwrap_or, position, slice_get, refl, sym, ap, ◌∙◌}
use Rattle.std.proofs.Common.{append_assoc, append-nil, length-append, arith}
use Rattle.std.proofs.lemmas.Option.{none-some, same_Some}
use Rattle.std.specs.Str.{bytes_eq}
use Rattle.std.proofs.lemmas.Slice.Eq.{bytes_eq-Decides}
use Rattle.chr_base.specs.ProgramTests.{Declaration}
use Rattle.chr_base.specs.RuleTests.{terms_of}
use Rattle.chr_base.proofs.Terms.{terms_of-append}
use Rattle.chr_syntax.specs.Clauses.{Term, Atom, variable, number}
use Rattle.chr_read.specs.Faults.{is_anonymous, args_of}
use Rattle.chr_read.specs.working.RuleParts.{Names, with_variable}
use Rattle.chr_read.specs.Resolving.{met_at, variable_of, resolved_term, after_term, head_terms, after_terms, heads}
use Rattle.chr_read.specs.Resolving.{after_heads}
use Rattle.chr_read.specs.Numberings.{HeadsAreOneList, OneNumberIsOneVariable}
use Rattle.chr_read.proofs.Numbering.{itself, met_within}
use Rattle.chr_read.proofs.Positions.{place, position_is, place_front, found_at}

-- ---- lists of terms

after_append : (names : Names) (xs ys : List Term) → after_terms names (xs ++ ys)
    ≡ after_terms (after_terms names xs) ys
after_append names [] ys = refl
after_append names (x ∷ xs) ys = after_append (after_term names x) xs ys

terms_appended : (names : Names) (xs ys : List Term) → head_terms names (xs ++ ys) ≡ head_terms names xs
    ++ head_terms (after_terms names xs) ys
terms_appended names [] ys = refl
terms_appended names (x ∷ xs) ys = ap (λ l. resolved_term names x ∷ l) (terms_appended (after_term names x) xs ys)

after_heads_is : (names : Names) (atoms : List Atom) → after_heads names atoms ≡ after_terms names (args_of atoms)
after_heads_is names [] = refl
after_heads_is names (a ∷ atoms) = after_heads_is (after_terms names a.args) atoms
    ∙ sym (after_append names a.args (args_of atoms))

heads_list : (ds : List Declaration) (names : Names) (atoms : List Atom) → terms_of (heads ds names atoms)
    ≡ head_terms names (args_of atoms)
heads_list ds names [] = refl
heads_list ds names (a ∷ atoms) =
    ap (λ l. head_terms names a.args ++ l) (heads_list ds (after_terms names a.args) atoms)
    ∙ sym (terms_appended names a.args (args_of atoms))

pub one_list : HeadsAreOneList
one_list ds kept removed =
    terms_of-append (heads ds [] kept) (heads ds (after_heads [] kept) removed)
    ∙ ap (λ l. l ++ terms_of (heads ds (after_heads [] kept) removed)) (heads_list ds [] kept)
    ∙ ap (λ l. head_terms [] (args_of kept) ++ l) (heads_list ds (after_heads [] kept) removed
    ∙ ap (λ n. head_terms n (args_of removed)) (after_heads_is [] kept))
    ∙ sym (terms_appended [] (args_of kept) (args_of removed))

-- ---- names only grow

grows : (names : Names) (ts : List Term) → (more : Names) × (after_terms names ts ≡ names ++ more)
grows names [] = ([], sym (append-nil names))
grows names (number w ∷ ts) = grows names ts
grows names (variable w ∷ ts) = by (is_some (met_at names w)) refl (grows (with_variable names w) ts)
  where
    by : (b : Bool) → is_some (met_at names w) ≡ b → (more : Names)
        × (after_terms (with_variable names w) ts ≡ with_variable names w ++ more) → (more : Names)
        × (after_terms (with_variable names w) ts ≡ names ++ more)
    by true is m = (m.0, m.1 ∙ ap (λ b. cond b names (names ++ w ∷ []) ++ m.0) is)
    by false is m = (
      w ∷ m.0,
      m.1 ∙ ap (λ b. cond b names (names ++ w ∷ []) ++ m.0) is
          ∙ append_assoc names (w ∷ []) m.0,
    )

get_front : (xs ys : Names) (i : ℕ) (x : List ℕ) → slice_get xs i ≡ Some x → slice_get (xs ++ ys) i ≡ Some x
get_front [] ys i x h = absurd (none-some x h)
get_front (y ∷ xs) ys zero x h = h
get_front (y ∷ xs) ys (suc i) x h = get_front xs ys i x h

get_last : (xs : Names) (x : List ℕ) → slice_get (xs ++ x ∷ []) (length xs) ≡ Some x
get_last [] x = refl
get_last (y ∷ xs) x = get_last xs x

place_last : (p : List ℕ → Bool) (xs : Names) (x : List ℕ) → place p xs ≡ None → p x ≡ true → place p (xs ++ x ∷ [])
    ≡ Some (length xs)
place_last p [] x h good = ap (λ b. cond b (Some 0) None) good
place_last p (y ∷ xs) x h good = by (p y) h (λ e. place_last p xs x e good)
  where
    none_before : (o : Option ℕ) → option_map suc o ≡ None → o ≡ None
    none_before None e = refl
    none_before (Some k) e = absurd (none-some (suc k) (sym e))

    by : (b : Bool) → cond b (Some 0) (option_map suc (place p xs)) ≡ None
        → (place p xs ≡ None → place p (xs ++ x ∷ []) ≡ Some (length xs))
        → cond b (Some 0) (option_map suc (place p (xs ++ x ∷ []))) ≡ Some (suc (length xs))
    by true e ih = absurd (none-some 0 (sym e))
    by false e ih = ap (option_map suc) (ih (none_before (place p xs) e))

-- ---- what was met

not_anonymous : (names : Names) (w : List ℕ) (i : ℕ) → met_at names w ≡ Some i → (is_anonymous w ≡ false)
    × (place (bytes_eq w) names ≡ Some i)
not_anonymous names w i h = by (is_anonymous w) refl h
  where
    by : (b : Bool) → is_anonymous w ≡ b → cond b None (position (bytes_eq w) names) ≡ Some i → (is_anonymous w ≡ false)
        × (place (bytes_eq w) names ≡ Some i)
    by true is e = absurd (none-some i e)
    by false is e = (is, sym (position_is (bytes_eq w) names) ∙ e)

met_is : (names : Names) (w : List ℕ) (i : ℕ) → met_at names w ≡ Some i → slice_get names i ≡ Some w
met_is names w i h =
    let f = found_at (bytes_eq w) names i (not_anonymous names w i h).1 in
    f.1 ∙ ap Some (sym ((bytes_eq-Decides w f.0).0 f.2))

-- the name at the number's place, once it is met
stands : (names : Names) (v : List ℕ) → (k : ℕ) × (variable_of names v ≡ k + 1)
    × (slice_get (with_variable names v) k ≡ Some v) × (k < length (with_variable names v))
stands names v = by (met_at names v) refl
  where
    by : (o : Option ℕ) → met_at names v ≡ o
        → (k : ℕ) × (unwrap_or o (length names) + 1 ≡ k + 1)
        × (slice_get (cond (is_some o) names (names ++ v ∷ [])) k ≡ Some v)
        × (k < length (cond (is_some o) names (names ++ v ∷ [])))
    by None is = (length names, refl, get_last names v, let e = length-append names (v ∷ []) in omega (arith, e))
    by (Some i) is = (i, refl, met_is names v i is, met_within names v i is)

-- a variable with a name is found where it was met
found_again : (names : Names) (v : List ℕ) → is_anonymous v ≡ false → (k : ℕ) × (variable_of names v ≡ k + 1)
    × (place (bytes_eq v) (with_variable names v) ≡ Some k)
found_again names v named = by (met_at names v) refl
  where
    known : met_at names v ≡ place (bytes_eq v) names
    known = ap (λ b. cond b None (position (bytes_eq v) names)) named ∙ position_is (bytes_eq v) names

    by : (o : Option ℕ) → met_at names v ≡ o → (k : ℕ) × (unwrap_or o (length names) + 1 ≡ k + 1)
        × (place (bytes_eq v) (cond (is_some o) names (names ++ v ∷ [])) ≡ Some k)
    by None is = (length names, refl, place_last (bytes_eq v) names v (sym known ∙ is) (itself v))
    by (Some i) is = (i, refl, sym known ∙ is)

same_so : (names : Names) (ts : List Term) (v : List ℕ) → is_anonymous v ≡ false
    → variable_of (after_terms (with_variable names v) ts) v ≡ variable_of names v
same_so names ts v named =
    let f = found_again names v named in
    let g = grows (with_variable names v) ts in
    let later : met_at (after_terms (with_variable names v) ts) v ≡ Some f.0 =
    ap (λ l. met_at l v) g.1 ∙ ap (λ b. cond b None (position (bytes_eq v) (with_variable names v ++ g.0))) named
    ∙ position_is (bytes_eq v) (with_variable names v ++ g.0)
    ∙ place_front (bytes_eq v) (with_variable names v) g.0 f.0 f.2 in
    ap (λ o. unwrap_or o (length (after_terms (with_variable names v) ts)) + 1) later ∙ sym f.1

only_so : (names : Names) (ts : List Term) (v w : List ℕ) → variable_of (after_terms (with_variable names v) ts) w
    ≡ variable_of names v → (v ≡ w) × (is_anonymous w ≡ false)
only_so names ts v w h = by (met_at (after_terms (with_variable names v) ts) w) refl h
  where
    by : (o : Option ℕ) → met_at (after_terms (with_variable names v) ts) w ≡ o
        → unwrap_or o (length (after_terms (with_variable names v) ts)) + 1 ≡ variable_of names v → (v ≡ w)
        × (is_anonymous w ≡ false)
    by None is e =
        let st = stands names v in
        let g = grows (with_variable names v) ts in
        let l = ap length g.1 ∙ length-append (with_variable names v) g.0 in
        absurd (omega (arith, l, e, st.1, st.3))
    by (Some q) is e =
        let st = stands names v in
        let g = grows (with_variable names v) ts in
        let there : slice_get (after_terms (with_variable names v) ts) st.0 ≡ Some v = ap (λ l. slice_get l st.0) g.1
        ∙ get_front (with_variable names v) g.0 st.0 v st.2 in
        let here = met_is (after_terms (with_variable names v) ts) w q is in
        let one : q ≡ st.0 = omega (arith, e, st.1) in (
          same_Some v w (sym there ∙ ap (slice_get (after_terms (with_variable names v) ts)) (sym one) ∙ here),
          (not_anonymous (after_terms (with_variable names v) ts) w q is).0,
        )

pub one_number : OneNumberIsOneVariable
one_number before between v w =
    let names = after_terms [] before in
    let is = after_append [] before (variable v ∷ between) in (
      λ h. only_so names between v w (sym (ap (λ n. variable_of n w) is) ∙ h),
      λ (same, named). ap (λ n. variable_of n w) is ∙ again names between v w same named,
    )
  where
    again : (names : Names) (ts : List Term) (v w : List ℕ) → v ≡ w → is_anonymous w ≡ false
        → variable_of (after_terms (with_variable names v) ts) w ≡ variable_of names v
    again names ts v w same named =
        ap (λ u. variable_of (after_terms (with_variable names v) ts) u) (sym same)
        ∙ same_so names ts v (ap is_anonymous same ∙ named)
