-- The clause of a rule is read as the rule that it was written for.
use Rattle.std.proofs.Common.{◌≡◌, ℕ, zero, suc, ◌+◌, ◌<◌, ◌≤◌, List, [], ◌∷◌, ◌++◌, length, map, Bool, true, false}
use Rattle.std.proofs.Common.{not, cond, ◌||◌, ◌&&◌, nat_lt, nat_le, nat_eq, Option, Some, None, option_map, unwrap_or}
use Rattle.std.proofs.Common.{is_none, slice_get, refl, sym, ap, ◌∙◌, subst, arith}
use Rattle.std.specs.Prelude.{pos, codes, decimal}
use Rattle.std.specs.Option.{option_map_or}
use Rattle.std.specs.List.{list_any, list_all, AllByRecursion}
use Rattle.std.proofs.lemmas.Bool.{false≢true, eqb-true, or_parts, and_parts, or_right, or_left, or_from, not-true}
use Rattle.std.proofs.lemmas.Bool.Decides.{nat_tests}
use Rattle.std.proofs.lemmas.Fmt.{length-decimal-le_succ}
use Rattle.std.proofs.lemmas.List.{length-map}
use Rattle.std.proofs.lemmas.Option.{none-some, same_Some}
use Rattle.chr_base.specs.declared.limits.TheConstants.{MAX_ARITY, MAX_NAME, MAX_VARIABLES}
use Rattle.chr_base.specs.declared.term.Term as base
use Rattle.chr_base.specs.declared.term.Term.TheVariants.{Variable, Constant}
use Rattle.chr_base.specs.declared.term.Cmp.{Cmp}
use Rattle.chr_base.specs.declared.term.Cmp.TheVariants as cmp
use Rattle.chr_base.specs.declared.term.Comparison as base_comparison
use Rattle.chr_base.specs.declared.term.Pattern.{Pattern}
use Rattle.chr_base.specs.Names as names
use Rattle.chr_base.specs.Values.{is_value}
use Rattle.chr_base.specs.RuleTests as rules
use Rattle.chr_base.specs.RuleTests.{occurs, is_bound_in, is_closed, terms_of, numbered, is_valued, are_valued}
use Rattle.chr_base.specs.ProgramTests.{Declaration, declares, takes, is_declared, are_distinct, is_in_range}
use Rattle.chr_syntax.specs.working.Spellings.{IsAtom}
use Rattle.chr_base.specs.Names.{is_lower}
use Rattle.chr_syntax.specs.Lexemes.{IsWord}
use Rattle.chr_base.specs.Texts.{name_at}
use Rattle.chr_read.specs.Faults.{present, is_long, atom_over, is_undeclared, is_long_variable, is_outside}
use Rattle.chr_read.specs.working.RuleParts.{place_of, place_of_atom, parts_of_atom_over, atom_outside}
use Rattle.chr_read.specs.Resolving.{resolved_term, heads, after_heads, body_atom, cmp_of, resolved_comparison}
use Rattle.chr_read.proofs.Decimals.{number_back}
use Rattle.chr_read.proofs.DeclarationsBack.{InRange, in_range, name_is_word, name_is_unreserved, name_is_short, turned}
use Rattle.chr_read.proofs.DeclarationsBack.{declares_itself}
use Rattle.chr_read.proofs.NumberedNames.{first_names, variable_back, terms_back}
use Rattle.chr_read.proofs.Numbering.{occurs_terms}
use Rattle.chr_read.proofs.Positions.{place, position_is}
use Rattle.chr_read.proofs.WrittenForms.{written_term, written_atom, comparator_of, written_comparison, written_body}
use Rattle.chr_read.proofs.WrittenTokens.{IsWritable, IsWritableAtom}

-- ---- lists

pub each_so : {A : Type 0} (P Q : A → Type 0) → ((x : A) → P x → Q x) → (xs : List A) → AllByRecursion P xs
    → AllByRecursion Q xs
each_so P Q f [] h = tt
each_so P Q f (x ∷ xs) h = (f x h.0, each_so P Q f xs h.1)

pub tested : {A : Type 0} (p : A → Bool) (Q : A → Type 0) → ((x : A) → p x ≡ true → Q x) → (xs : List A) → list_all p xs
    ≡ true → AllByRecursion Q xs
tested p Q f [] h = tt
tested p Q f (x ∷ xs) h = let e = and_parts (p x) (list_all p xs) h in (f x e.0, tested p Q f xs e.1)

pub none_pass : {A B : Type 0} (p : B → Bool) (f : A → B) (Q : A → Type 0) → ((x : A) → Q x → p (f x) ≡ false)
    → (xs : List A) → AllByRecursion Q xs → list_any p (map f xs) ≡ false
none_pass p f Q good [] h = refl
none_pass p f Q good (x ∷ xs) h = or_from (p (f x)) _ (good x h.0) (none_pass p f Q good xs h.1)

pub any_pass : {A B : Type 0} (p : A → Bool) (q : B → Bool) (f : A → B) → ((x : A) → p x ≡ true → q (f x) ≡ true)
    → (xs : List A) → list_any p xs ≡ true → list_any q (map f xs) ≡ true
any_pass p q f good [] h = h
any_pass p q f good (x ∷ xs) h = by (p x) refl h (any_pass p q f good xs)
  where
    by : (b : Bool) → p x ≡ b → (b || list_any p xs) ≡ true → (list_any p xs ≡ true → list_any q (map f xs) ≡ true)
        → (q (f x) || list_any q (map f xs)) ≡ true
    by true e h more = or_left (q (f x)) _ (good x e)
    by false e h more = or_right (q (f x)) _ (more h)

pub same_each : {A B : Type 0} (g : B → A) (f : A → B) (Q : A → Type 0) → ((x : A) → Q x → g (f x) ≡ x) → (xs : List A)
    → AllByRecursion Q xs → map g (map f xs) ≡ xs
same_each g f Q back [] h = refl
same_each g f Q back (x ∷ xs) h = let a = back x h.0 in let b = same_each g f Q back xs h.1 in λ i. a i ∷ b i

pub present_map : {A B : Type 0} (f : A → B) (xs : List A) → present (map (λ x. Some (f x)) xs) ≡ map f xs
present_map f [] = refl
present_map f (x ∷ xs) = ap (λ l. f x ∷ l) (present_map f xs)

pub present_body : (ds : List Declaration) (ps : List Pattern) → present (written_body ds ps) ≡ map (written_atom ds) ps
present_body ds [] = refl
present_body ds (p ∷ ps) = present_map (written_atom ds) (p ∷ ps)

-- ---- symbols

pub record Placed (ds : List Declaration) (p : Pattern) : Type 0 where
  pub d : Declaration
  pub there : slice_get ds p.symbol.0 ≡ Some d
  pub takes : length p.args.items ≡ d.arity
  pub range : InRange d

range_at : (ds : List Declaration) (i : ℕ) (d : Declaration) → list_all is_in_range ds ≡ true → slice_get ds i ≡ Some d
    → is_in_range d ≡ true
range_at [] i d h g = absurd (none-some d g)
range_at (e ∷ ds) zero d h g = subst (λ x. is_in_range x ≡ true) (same_Some e d g)
    (and_parts (is_in_range e) (list_all is_in_range ds) h).0
range_at (e ∷ ds) (suc i) d h g = range_at ds i d (and_parts (is_in_range e) (list_all is_in_range ds) h).1 g

pub placed : (ds : List Declaration) (p : Pattern) → list_all is_in_range ds ≡ true → is_declared ds p ≡ true
    → Placed ds p
placed ds p r h = by (slice_get ds p.symbol.0) refl h
  where
    by : (o : Option Declaration) → slice_get ds p.symbol.0 ≡ o → takes o (length p.args.items) ≡ true → Placed ds p
    by None e h = absurd (false≢true h)
    by (Some d) e h = record {
      d = d;
      there = e;
      takes = sym (eqb-true d.arity (length p.args.items) h);
      range =
          in_range d (range_at ds p.symbol.0 d r e);
    }

any_there : (p : Declaration → Bool) (ds : List Declaration) (i : ℕ) (d : Declaration) → list_any p ds ≡ false
    → slice_get ds i ≡ Some d → p d ≡ false
any_there p [] i d h g = absurd (none-some d g)
any_there p (e ∷ ds) zero d h g = subst (λ x. p x ≡ false) (same_Some e d g) (or_parts (p e) (list_any p ds) h).0
any_there p (e ∷ ds) (suc i) d h g = any_there p ds i d (or_parts (p e) (list_any p ds) h).1 g

place_at : (ds : List Declaration) (i : ℕ) (d : Declaration) → are_distinct ds ≡ true → slice_get ds i ≡ Some d
    → place (declares d.name d.arity) ds ≡ Some i
place_at [] i d h g = absurd (none-some d g)
place_at (e ∷ ds) zero d h g = ap (λ b. cond b (Some 0) (option_map suc (place (declares d.name d.arity) ds)))
    (subst (λ x. declares d.name d.arity x ≡ true) (sym (same_Some e d g)) (declares_itself d))
place_at (e ∷ ds) (suc i) d h g =
    let u = and_parts (not (list_any (declares e.name e.arity) ds)) (are_distinct ds) h in
    let other = turned e d (any_there (declares e.name e.arity) ds i d (not-true _ u.0) g) in
    ap (λ b. cond b (Some 0) (option_map suc (place (declares d.name d.arity) ds))) other
    ∙ ap (option_map suc) (place_at ds i d u.1 g)

name_here : (ds : List Declaration) (p : Pattern) (q : Placed ds p) → name_at ds p.symbol.0 ≡ q.d.name
name_here ds p q = ap (λ o. option_map_or (λ d. d.name) o []) q.there

atom_place : (ds : List Declaration) (p : Pattern) → are_distinct ds ≡ true → Placed ds p
    → place_of_atom ds (written_atom ds p) ≡ Some p.symbol.0
atom_place ds p u q =
    let name = name_here ds p q in
    let count = length-map p.args.items written_term ∙ q.takes in
    (λ i. place_of ds (name i) (count i)) ∙ position_is (declares q.d.name q.d.arity) ds
    ∙ place_at ds p.symbol.0 q.d u q.there

-- ---- terms

-- one of the first n variables, or a value
abbrev pub Good : ℕ → base.Term → Type 0
Good n (Variable x) = (0 < x) × (x ≤ n)
Good n (Constant c) = is_value c ≡ true

pub writable : (n : ℕ) → n ≤ MAX_VARIABLES → (t : base.Term) → Good n t → IsWritable t
writable n l (Variable x) h = omega (arith, l, h)
writable n l (Constant c) h = h

pub within : (n : ℕ) → n ≤ MAX_VARIABLES → (t : base.Term) → Good n t → is_long_variable (written_term t) ≡ false
within n l (Variable x) h = let a = length-decimal-le_succ x (omega (arith, l, h)) in
    short (decimal x) (omega (arith, a, l, h))
  where
    short : (w : List ℕ) → length w ≤ suc MAX_VARIABLES → nat_lt MAX_NAME (length (codes "V" ++ w)) ≡ false
    short w h = grind (arith, nat_tests)
within n l (Constant c) h = refl

pub inside : (n : ℕ) (t : base.Term) → Good n t → is_outside (written_term t) ≡ false
inside n (Variable x) h = refl
inside n (Constant c) h = ap is_none (number_back c h)

term_back : (n : ℕ) → n ≤ MAX_VARIABLES → (t : base.Term) → Good n t → resolved_term (first_names n) (written_term t)
    ≡ t
term_back n l (Variable zero) h = absurd (omega (arith, h))
term_back n l (Variable (suc x)) h = ap Variable (variable_back x n (omega (arith, h)) (omega (arith, l)))
term_back n l (Constant c) h = ap (λ o. Constant (unwrap_or o (pos 0))) (number_back c h)

-- ---- numbering

pub numbered_split : (m n : ℕ) (xs ys : List base.Term) → numbered m (xs ++ ys) ≡ Some n → (k : ℕ)
    × (numbered m xs ≡ Some k) × (numbered k ys ≡ Some n)
numbered_split m n [] ys h = (m, refl, h)
numbered_split m n (Constant c ∷ xs) ys h = numbered_split m n xs ys h
numbered_split m n (Variable x ∷ xs) ys h = by (nat_eq x (m + 1)) (nat_lt 0 x && nat_le x m) h
    (λ k. numbered_split k n xs ys)
  where
    by : (s t : Bool) → cond s (numbered (m + 1) (xs ++ ys)) (cond t (numbered m (xs ++ ys)) None) ≡ Some n
        → ((j : ℕ) → numbered j (xs ++ ys) ≡ Some n → (k : ℕ) × (numbered j xs ≡ Some k) × (numbered k ys ≡ Some n))
        → (k : ℕ) × (cond s (numbered (m + 1) xs) (cond t (numbered m xs) None) ≡ Some k) × (numbered k ys ≡ Some n)
    by true t h more = more (m + 1) h
    by false true h more = more m h
    by false false h more = absurd (none-some n h)

pub record Bounds (m n : ℕ) (ts : List base.Term) : Type 0 where
  pub least : m ≤ n
  pub most : n ≤ m + length ts
  pub good : AllByRecursion (Good n) ts

pub bounds : (m n : ℕ) (ts : List base.Term) → numbered m ts ≡ Some n → list_all is_valued ts ≡ true → Bounds m n ts
bounds m n [] h v = let e = same_Some m n h in record { least = omega (arith, e); most = omega (arith, e); good = tt }
bounds m n (Constant c ∷ ts) h v =
    let e = and_parts (is_value c) (list_all is_valued ts) v in let b = bounds m n ts h e.1 in
    record { least = b.least; most = (let k = b.most in omega (arith, k)); good = (e.0, b.good) }
bounds m n (Variable x ∷ ts) h v = by (nat_eq x (m + 1)) (nat_lt 0 x && nat_le x m) refl refl h
    (λ k g. bounds k n ts g v)
  where
    by : (s t : Bool) → nat_eq x (m + 1) ≡ s → (nat_lt 0 x && nat_le x m) ≡ t
        → cond s (numbered (m + 1) ts) (cond t (numbered m ts) None) ≡ Some n
        → ((k : ℕ) → numbered k ts ≡ Some n → Bounds k n ts) → Bounds m n (Variable x ∷ ts)
    by true t e g h more =
        let b = more (m + 1) h in let is = eqb-true x (m + 1) e in let l = b.least in let k = b.most in
        record {
          least = omega (arith, l);
          most = omega (arith, k);
          good =
              ((omega (arith, is), omega (arith, is, l)), b.good);
        }
    by false true e g h more =
        let b = more m h in let p = and_parts (nat_lt 0 x) (nat_le x m) g in let l = b.least in let k = b.most in
        let some : 0 < x = (let p0 = p.0 in grind (arith, nat_tests)) in let below : x ≤ m =
        (let p1 = p.1 in grind (arith, nat_tests)) in
        record { least = l; most = omega (arith, k); good = ((some, omega (arith, below, l)), b.good) }
    by false false e g h more = absurd (none-some n h)

-- a variable that occurs in good terms is one of the first n
occurring : (n x : ℕ) (ts : List base.Term) → AllByRecursion (Good n) ts → list_any (rules.is_variable x) ts ≡ true
    → Good n (Variable x)
occurring n x [] h g = absurd (false≢true g)
occurring n x (t ∷ ts) h g = by t h.0 g (occurring n x ts h.1)
  where
    at : (y : ℕ) (b : Bool) → nat_eq x y ≡ b → Good n (Variable y) → (b || list_any (rules.is_variable x) ts) ≡ true
        → (list_any (rules.is_variable x) ts ≡ true → Good n (Variable x)) → Good n (Variable x)
    at y true e k g more = subst (λ z. Good n (Variable z)) (sym (eqb-true x y e)) k
    at y false e k g more = more g

    by : (t : base.Term) → Good n t → (rules.is_variable x t || list_any (rules.is_variable x) ts) ≡ true
        → (list_any (rules.is_variable x) ts ≡ true → Good n (Variable x)) → Good n (Variable x)
    by (Variable y) k g more = at y (nat_eq x y) refl k g more
    by (Constant c) k g more = more g

pub good_term : (n : ℕ) (ps : List Pattern) → AllByRecursion (Good n) (terms_of ps) → (t : base.Term) → is_bound_in ps t
    ≡ true → is_valued t ≡ true → Good n t
good_term n ps h (Variable x) k v = occurring n x (terms_of ps) h (occurs_terms x ps ∙ k)
good_term n ps h (Constant c) k v = v

-- ---- atoms

pub record GoodAtom (ds : List Declaration) (n : ℕ) (p : Pattern) : Type 0 where
  pub placed : Placed ds p
  pub args : AllByRecursion (Good n) p.args.items

pub atom_within : (ds : List Declaration) (n : ℕ) → n ≤ MAX_VARIABLES → (p : Pattern) → GoodAtom ds n p
    → parts_of_atom_over (written_atom ds p) ≡ false
atom_within ds n l p h =
    let q = h.placed in
    let few : nat_lt MAX_ARITY (length (map written_term p.args.items)) ≡ false =
    (let a = length-map p.args.items written_term in let b = q.takes in let c = q.range.arity in
    grind (arith, nat_tests)) in
    let short = ap is_long (name_here ds p q) ∙ name_is_short q.d.name q.range.short in
    or_from (atom_over (written_atom ds p)) _ (or_from (is_long (name_at ds p.symbol.0)) _ short few)
    (none_pass is_long_variable written_term (Good n) (within n l) p.args.items h.args)

pub atom_inside : (ds : List Declaration) (n : ℕ) (p : Pattern) → GoodAtom ds n p → atom_outside (written_atom ds p)
    ≡ false
atom_inside ds n p h = none_pass is_outside written_term (Good n) (inside n) p.args.items h.args

pub atom_declared : (ds : List Declaration) (n : ℕ) → are_distinct ds ≡ true → (p : Pattern) → GoodAtom ds n p
    → is_undeclared ds (written_atom ds p) ≡ false
atom_declared ds n u p h = ap is_none (atom_place ds p u h.placed)

pub atom_writable : (ds : List Declaration) (n : ℕ) → n ≤ MAX_VARIABLES → (p : Pattern) → GoodAtom ds n p
    → IsWritableAtom ds p
atom_writable ds n l p h = record {
  word = subst (IsWord is_lower) (sym (name_here ds p h.placed)) (name_is_word h.placed.d.name h.placed.range.name);
  args = each_so (Good n) IsWritable (writable n l) p.args.items h.args;
}

pub atom_form : (ds : List Declaration) (n : ℕ) (p : Pattern) → GoodAtom ds n p → IsAtom (written_atom ds p)
atom_form ds n p h = subst (λ w. names.is_reserved w ≡ false) (sym (name_here ds p h.placed))
    (name_is_unreserved h.placed.d.name h.placed.range.name)

pub body_atom_back : (ds : List Declaration) (n : ℕ) → n ≤ MAX_VARIABLES → are_distinct ds ≡ true → (p : Pattern)
    → GoodAtom ds n p → body_atom ds (first_names n) (written_atom ds p) ≡ p
body_atom_back ds n l u p h =
    let symbol = ap (λ o. unwrap_or o 0) (atom_place ds p u h.placed) in
    let args = same_each (resolved_term (first_names n)) written_term (Good n) (term_back n l) p.args.items h.args in
    λ i. record { symbol = record { 0 = symbol i }; args = record { items = args i } }

pub heads_back : (ds : List Declaration) (m n : ℕ) (ps : List Pattern) → n ≤ MAX_VARIABLES → m ≤ MAX_VARIABLES
    → are_distinct ds ≡ true → AllByRecursion (GoodAtom ds n) ps → list_all is_valued (terms_of ps) ≡ true
    → numbered m (terms_of ps) ≡ Some n
    → (heads ds (first_names m) (map (written_atom ds) ps) ≡ ps)
    × (after_heads (first_names m) (map (written_atom ds) ps) ≡ first_names n)
heads_back ds m n [] l k u h v e = (refl, ap first_names (same_Some m n e))
heads_back ds m n (p ∷ ps) l k u h v e =
    let s = numbered_split m n p.args.items (terms_of ps) e in
    let rest = valued_back p.args.items (terms_of ps) v in
    let b = (bounds s.0 n (terms_of ps) s.2 rest).least in
    let here = terms_back m s.0 p.args.items (omega (arith, k))
    (each_so (Good n) IsWritable (writable n l) p.args.items h.0.args) s.1 in
    let later = heads_back ds s.0 n ps l (omega (arith, b, l)) u h.1 rest s.2 in
    let symbol = ap (λ o. unwrap_or o 0) (atom_place ds p u h.0.placed) in (
      (λ i. record { symbol = record { 0 = symbol i }; args = record { items = here.0 i } }
          ∷ heads ds (here.1 i) (map (written_atom ds) ps)) ∙ ap (λ l. p ∷ l) later.0,
      ap (λ names. after_heads names (map (written_atom ds) ps)) here.1 ∙ later.1,
    )
  where
    valued_back : (xs ys : List base.Term) → list_all is_valued (xs ++ ys) ≡ true → list_all is_valued ys ≡ true
    valued_back [] ys h = h
    valued_back (x ∷ xs) ys h = valued_back xs ys (and_parts (is_valued x) (list_all is_valued (xs ++ ys)) h).1

-- ---- comparisons

pub record GoodComparison (n : ℕ) (c : base_comparison.Comparison) : Type 0 where
  pub left : Good n c.left
  pub right : Good n c.right

cmp_back : (x : Cmp) → cmp_of (comparator_of x) ≡ x
cmp_back cmp.Less = refl
cmp_back cmp.AtMost = refl
cmp_back cmp.Greater = refl
cmp_back cmp.AtLeast = refl
cmp_back cmp.Equal = refl
cmp_back cmp.NotEqual = refl

pub comparison_back : (n : ℕ) → n ≤ MAX_VARIABLES → (c : base_comparison.Comparison) → GoodComparison n c
    → resolved_comparison (first_names n) (written_comparison c) ≡ c
comparison_back n l c h = let a = term_back n l c.left h.left in let b = term_back n l c.right h.right in let o =
    cmp_back c.cmp in λ i. record { left = a i; cmp = o i; right = b i }
