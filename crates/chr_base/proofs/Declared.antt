-- The declarations as the symbol table has them.
use Rattle.std.proofs.Common.{◌≡◌, ℕ, zero, suc, ◌+◌, ◌<◌, ◌≤◌, Bool, true, false, cond, List, [], ◌∷◌, ◌++◌, length}
use Rattle.std.proofs.Common.{refl, sym, ap, ◌∙◌, arith, inl, inr, ◌⊎◌, length-append, map}
use Rattle.std.specs.Prelude.{not, nat_lt, nat_le, nat_eq, position, Option, Some, None, ◌&&◌, ◌||◌, slice_get, IsTrue}
use Rattle.std.specs.Prelude.{Result, Ok, Err, OnOk, OnErr, option_map, IsSome}
use Rattle.std.specs.Borrow.{Bor}
use Rattle.std.specs.Map.Iter.{deref_pair}
use Rattle.std.specs.List.{position_or_len, list_all, list_any}
use Rattle.std.specs.Map.{keys_of}
use mathlib.Core.Bool.{true≢false}
use Rattle.std.specs.Str.{bytes_eq}
use Rattle.std.proofs.lemmas.Bool.{eqb-true, eq-eqb, and_from, and_parts}
use Rattle.std.proofs.lemmas.List.{length-map}
use Rattle.std.proofs.lemmas.Map.Entries.{length-keys_of}
use Rattle.std.proofs.lemmas.Option.{slice_get-map}
use Rattle.std.proofs.lemmas.List.Folds.{list_any-append}
use Rattle.indexmap.specs.IndexMap.{insert_entry}
use Rattle.std.proofs.lemmas.Slice.Eq.{bytes_eq-Decides}
use Rattle.chr_base.specs.declared.limits.TheConstants.{MAX_ARITY, MAX_NAME, MAX_RULES, MAX_SYMBOLS}
use Rattle.chr_base.specs.declared.weight.Weight.{Weight}
use Rattle.chr_base.specs.Weights.{default_weight, is_weight}
use Rattle.chr_base.specs.declared.rule.Rule.{Rule}
use Rattle.chr_base.specs.declared.term.Pattern.{Pattern}
use Rattle.std.proofs.lemmas.Bool.Decides.{nat_tests}
use Rattle.chr_base.specs.declared.program.Symbol.{Symbol}
use Rattle.chr_base.specs.Names.{is_name}
use Rattle.chr_base.specs.ProgramTests.{Declaration, declared, declares, is_in_range, is_program}
use Rattle.chr_base.specs.ProgramTests.{are_distinct, fits, takes, is_declared}

-- a key passes the table's test just where its declaration is that of the name and number of arguments
abbrev pub SameTest : (Symbol → Bool) → List ℕ → ℕ → Type 0
SameTest test name arity = (k : Symbol) → test k ≡ (bytes_eq name k.name.bytes && nat_eq arity k.arity)

places : (test : Symbol → Bool) (name : List ℕ) (arity : ℕ) → SameTest test name arity → (es : List (Symbol × Weight))
    → position_or_len test (keys_of es) ≡ position_or_len (declares name arity) (map declared es)
places test name arity same [] = refl
places test name arity same (e ∷ es) = let h = same e.0 in let more = places test name arity same es in
    λ i. cond (not (h i)) (1 + more i) 0

pub position-keys : (test : Symbol → Bool) (name : List ℕ) (arity : ℕ) → SameTest test name arity
    → (es : List (Symbol × Weight)) → position test (keys_of es) ≡ position (declares name arity) (map declared es)
position-keys test name arity same es =
    let p = places test name arity same es in
    let l : length (keys_of es) ≡ length (map declared es) = length-keys_of es ∙ sym (length-map es declared) in
    λ i. cond (nat_lt (p i) (l i)) (Some (p i)) None

-- ---- no declaration has a name or a number of arguments that is too long

pub le_from : (a b : ℕ) → nat_le a b ≡ true → a ≤ b
le_from a b h = grind (arith, nat_tests)

pub to_le : (a b : ℕ) → a ≤ b → nat_le a b ≡ true
to_le a b h = grind (arith, nat_tests)

is_same_name : (xs ys : List ℕ) → bytes_eq xs ys ≡ true → xs ≡ ys
is_same_name xs ys h = (bytes_eq-Decides xs ys).0 h

name_fits : (d : Declaration) → is_in_range d ≡ true → (length d.name ≤ MAX_NAME) × (d.arity ≤ MAX_ARITY)
name_fits d h =
    let a : (is_name d.name && nat_le (length d.name) MAX_NAME && nat_le d.arity MAX_ARITY) ≡ true =
    (and_parts _ (is_weight d.weight) h).0 in (
      le_from _ _ ((and_parts (is_name d.name) _ ((and_parts _ (nat_le d.arity MAX_ARITY) a).0)).1),
      le_from _ _ ((and_parts (is_name d.name && nat_le (length d.name) MAX_NAME) _ a).1),
    )

too_long : (name : List ℕ) (arity : ℕ) (d : Declaration) → is_in_range d ≡ true → (MAX_NAME < length name)
    ⊎ (MAX_ARITY < arity) → declares name arity d ≡ false
too_long name arity d r long = by (declares name arity d) refl
  where
    by : (b : Bool) → declares name arity d ≡ b → declares name arity d ≡ false
    by false e = e
    by true e =
        let n : name ≡ d.name = is_same_name name d.name ((and_parts _ _ e).0) in
        let a : arity ≡ d.arity = eqb-true arity d.arity ((and_parts (bytes_eq name d.name) _ e).1) in
        let f = name_fits d r in
        let l = ap length n in
        absurd (elim long as (λ _. ⊥) [ inl h ↦ omega (arith, l, f, h) | inr h ↦ omega (arith, a, f, h) ])

none_long : (name : List ℕ) (arity : ℕ) (ds : List Declaration) → list_all is_in_range ds ≡ true
    → (MAX_NAME < length name) ⊎ (MAX_ARITY < arity) → position_or_len (declares name arity) ds ≡ length ds
none_long name arity [] r long = refl
none_long name arity (d ∷ ds) r long =
    let e = too_long name arity d ((and_parts _ (list_all is_in_range ds) r).0) long in
    let more = none_long name arity ds ((and_parts (is_in_range d) _ r).1) long in
    rw e (omega (arith, more))

no_place : (p : Declaration → Bool) (ds : List Declaration) → position_or_len p ds ≡ length ds → position p ds ≡ None
no_place p ds h = let e : nat_lt (position_or_len p ds) (length ds) ≡ false = grind (arith, nat_tests) in rw e refl

-- ---- what a program keeps, part by part

pub record Keeps (ds : List Declaration) (rs : List Rule) : Type 0 where
  pub symbols : length ds ≤ MAX_SYMBOLS
  pub rules : length rs ≤ MAX_RULES
  pub ranges : list_all is_in_range ds ≡ true
  pub distinct : are_distinct ds ≡ true
  pub fitting : list_all (fits ds) rs ≡ true

pub kept_by : (ds : List Declaration) (rs : List Rule) → IsTrue (is_program ds rs) → Keeps ds rs
kept_by ds rs h =
    let a : (nat_le (length ds) MAX_SYMBOLS && nat_le (length rs) MAX_RULES && list_all is_in_range ds
    && are_distinct ds) ≡ true = (and_parts _ (list_all (fits ds) rs) h).0 in
    let b : (nat_le (length ds) MAX_SYMBOLS && nat_le (length rs) MAX_RULES && list_all is_in_range ds) ≡ true =
    (and_parts _ (are_distinct ds) a).0 in
    let c : (nat_le (length ds) MAX_SYMBOLS && nat_le (length rs) MAX_RULES) ≡ true =
    (and_parts _ (list_all is_in_range ds) b).0 in
    record {
      symbols = le_from _ _ ((and_parts _ (nat_le (length rs) MAX_RULES) c).0);
      rules = le_from _ _ ((and_parts (nat_le (length ds) MAX_SYMBOLS) _ c).1);
      ranges = (and_parts (nat_le (length ds) MAX_SYMBOLS && nat_le (length rs) MAX_RULES) _ b).1;
      distinct = (and_parts (nat_le (length ds) MAX_SYMBOLS && nat_le (length rs) MAX_RULES && list_all is_in_range ds)
          _ a).1;
      fitting = (and_parts (nat_le (length ds) MAX_SYMBOLS && nat_le (length rs) MAX_RULES && list_all is_in_range ds
          && are_distinct ds) _ h).1;
    }

pub keep : (ds : List Declaration) (rs : List Rule) → Keeps ds rs → IsTrue (is_program ds rs)
keep ds rs k =
    and_from _ _ (and_from _ _ (and_from _ _ (and_from _ _ (to_le _ _ k.symbols) (to_le _ _ k.rules)) k.ranges)
    k.distinct) k.fitting

pub not_declared_long : (ds : List Declaration) (rs : List Rule) (name : List ℕ) (arity : ℕ) → IsTrue (is_program ds rs)
    → (MAX_NAME < length name) ⊎ (MAX_ARITY < arity) → position (declares name arity) ds ≡ None
not_declared_long ds rs name arity h long = no_place _ ds (none_long name arity ds (kept_by ds rs h).ranges long)

-- ---- one more rule

list_all-push : {A : Type 0} (p : A → Bool) (xs : List A) (x : A) → list_all p xs ≡ true → p x ≡ true
    → list_all p (xs ++ x ∷ []) ≡ true
list_all-push p [] x h g = and_from _ _ g refl
list_all-push p (y ∷ ys) x h g = and_from _ _ ((and_parts (p y) (list_all p ys) h).0)
    (list_all-push p ys x ((and_parts (p y) _ h).1) g)

-- ---- one more declaration

takes_more : (ds : List Declaration) (d : Declaration) (i n : ℕ) → takes (slice_get ds i) n ≡ true
    → takes (slice_get (ds ++ d ∷ []) i) n ≡ true
takes_more [] d i n h = absurd (true≢false (sym h))
takes_more (c ∷ ds) d zero n h = h
takes_more (c ∷ ds) d (suc i) n h = takes_more ds d i n h

declared_more : (ds : List Declaration) (d : Declaration) (ps : List Pattern) → list_all (is_declared ds) ps ≡ true
    → list_all (is_declared (ds ++ d ∷ [])) ps ≡ true
declared_more ds d [] h = refl
declared_more ds d (p ∷ ps) h =
    and_from _ _ (takes_more ds d p.symbol.0 _ ((and_parts (is_declared ds p) (list_all (is_declared ds) ps) h).0))
    (declared_more ds d ps ((and_parts (is_declared ds p) _ h).1))

fits_more : (ds : List Declaration) (d : Declaration) (rs : List Rule) → list_all (fits ds) rs ≡ true
    → list_all (fits (ds ++ d ∷ [])) rs ≡ true
fits_more ds d [] h = refl
fits_more ds d (r ∷ rs) h =
    let one : fits ds r ≡ true = (and_parts _ (list_all (fits ds) rs) h).0 in
    let heads : (list_all (is_declared ds) r.kept.items && list_all (is_declared ds) r.removed.items) ≡ true =
    (and_parts _ (list_all (is_declared ds) r.body.items) one).0 in
    and_from _ _
    (and_from _ _
    (and_from _ _ (declared_more ds d r.kept.items ((and_parts _ (list_all (is_declared ds) r.removed.items) heads).0))
    (declared_more ds d r.removed.items ((and_parts (list_all (is_declared ds) r.kept.items) _ heads).1)))
    (declared_more ds d r.body.items ((and_parts (list_all (is_declared ds) r.kept.items
    && list_all (is_declared ds) r.removed.items) _ one).1)))
    (fits_more ds d rs ((and_parts (fits ds r) _ h).1))

-- not declared yet: nothing passes
passes_none : (p : Declaration → Bool) (ds : List Declaration) → position p ds ≡ None → list_any p ds ≡ false
passes_none p ds h = by (nat_lt (position_or_len p ds) (length ds)) refl h
  where
    search : (es : List Declaration) → length es ≤ position_or_len p es → list_any p es ≡ false
    search [] l = refl
    search (e ∷ es) l = at (p e) refl l (search es)
      where
        at : (b : Bool) → p e ≡ b → suc (length es) ≤ cond (not (p e)) (1 + position_or_len p es) 0
            → (length es ≤ position_or_len p es → list_any p es ≡ false) → (p e || list_any p es) ≡ false
        at true q l more = absurd (let m : suc (length es) ≤ 0 = rw q at l in omega (arith, m))
        at false q l more = rw q (more (let m : suc (length es) ≤ 1 + position_or_len p es = rw q at l in
            omega (arith, m)))

    by : (b : Bool) → nat_lt (position_or_len p ds) (length ds) ≡ b → cond (nat_lt (position_or_len p ds) (length ds))
        (Some (position_or_len p ds)) None ≡ None → list_any p ds ≡ false
    by true e h = absurd (let m : ◌≡◌ {A = Option ℕ} (Some (position_or_len p ds)) None = rw e at h in cc)
    by false e h = search ds (grind (arith, nat_tests))

-- a place that is found is one
pub place_within : {A : Type 0} (p : A → Bool) (xs : List A) (i : ℕ) → position p xs ≡ Some i → i < length xs
place_within p xs i h = by (nat_lt (position_or_len p xs) (length xs)) refl h
  where
    by : (b : Bool) → nat_lt (position_or_len p xs) (length xs) ≡ b → cond (nat_lt (position_or_len p xs) (length xs))
        (Some (position_or_len p xs)) None ≡ Some i → i < length xs
    by true e h = let m : ◌≡◌ {A = Option ℕ} (Some (position_or_len p xs)) (Some i) = rw e at h in
        let n : position_or_len p xs ≡ i = cc in let l : position_or_len p xs < length xs = grind (arith, nat_tests) in
        omega (arith, n, l)
    by false e h = absurd (let m : ◌≡◌ {A = Option ℕ} None (Some i) = rw e at h in cc)

pub key_within : (test : Symbol → Bool) (es : List (Symbol × Weight)) (rs : List Rule) (i : ℕ)
    → IsTrue (is_program (map declared es) rs) → position test (keys_of es) ≡ Some i → i < MAX_SYMBOLS
key_within test es rs i h e =
    let a = place_within test (keys_of es) i e in let b = length-keys_of es in let c = length-map es declared in let d =
    (kept_by _ rs h).symbols in omega (arith, a, b, c, d)

-- the table with one more symbol
pub declared_last : (test : Symbol → Symbol → Bool) (k : Symbol) (w : Weight) → SameTest (test k) k.name.bytes k.arity
    → (es : List (Symbol × Weight)) → list_any (declares k.name.bytes k.arity) (map declared es) ≡ false
    → map declared (insert_entry test es k w) ≡ map declared es ++ declared (k, w) ∷ []
declared_last test k w same [] h = refl
declared_last test k w same (e ∷ es) h = by (declares k.name.bytes k.arity (declared e)) refl h
    (declared_last test k w same es)
  where
    by : (b : Bool) → declares k.name.bytes k.arity (declared e) ≡ b
        → (declares k.name.bytes k.arity (declared e) || list_any (declares k.name.bytes k.arity) (map declared es))
        ≡ false
        → (list_any (declares k.name.bytes k.arity) (map declared es) ≡ false
        → map declared (insert_entry test es k w) ≡ map declared es ++ declared (k, w) ∷ [])
        → map declared (insert_entry test (e ∷ es) k w) ≡ declared e ∷ (map declared es ++ declared (k, w) ∷ [])
    by true q h more = absurd (let m : true ≡ false = rw q at h in true≢false m)
    by false q h more = let t : test k e.0 ≡ false = same e.0 ∙ q in
        rw t (ap (λ ds. declared e ∷ ds) (more (let m : list_any (declares k.name.bytes k.arity) (map declared es)
        ≡ false = rw q at h in m)))

distinct_more : (ds : List Declaration) (d : Declaration) → are_distinct ds ≡ true
    → list_any (declares d.name d.arity) ds ≡ false → are_distinct (ds ++ d ∷ []) ≡ true
distinct_more [] d h g = refl
distinct_more (c ∷ ds) d h g =
    and_from _ _ (apart (list_any (declares c.name c.arity) ds) refl ((and_parts _ (are_distinct ds) h).0))
    (distinct_more ds d ((and_parts (not (list_any (declares c.name c.arity) ds)) _ h).1)
    (rest (declares d.name d.arity c) g))
  where
    rest : (b : Bool) → (b || list_any (declares d.name d.arity) ds) ≡ false → list_any (declares d.name d.arity) ds
        ≡ false
    rest true g = absurd (true≢false g)
    rest false g = g

    turned : declares d.name d.arity c ≡ false → declares c.name c.arity d ≡ false
    turned e = by (declares c.name c.arity d) refl
      where
        by : (b : Bool) → declares c.name c.arity d ≡ b → declares c.name c.arity d ≡ false
        by false q = q
        by true q =
            let n : c.name ≡ d.name = is_same_name c.name d.name ((and_parts _ _ q).0) in
            let a : c.arity ≡ d.arity = eqb-true c.arity d.arity ((and_parts (bytes_eq c.name d.name) _ q).1) in
            absurd (true≢false (sym (and_from _ _ ((bytes_eq-Decides d.name c.name).1 (sym n))
            (eq-eqb d.arity c.arity (sym a))) ∙ e))

    front : (b : Bool) → (b || list_any (declares d.name d.arity) ds) ≡ false → b ≡ false
    front true g = absurd (true≢false g)
    front false g = refl

    apart : (b : Bool) → list_any (declares c.name c.arity) ds ≡ b → not b ≡ true
        → not (list_any (declares c.name c.arity) (ds ++ d ∷ [])) ≡ true
    apart true e q = absurd (true≢false (sym q))
    apart false e q = rw (
      list_any-append (declares c.name c.arity) ds (d ∷ []),
      e,
      turned (front (declares d.name d.arity c) g),
    ) refl

pub symbol_pushed : (ds cs : List Declaration) (rs : List Rule) (d : Declaration) → cs ≡ ds ++ d ∷ []
    → IsTrue (is_program ds rs) → length ds < MAX_SYMBOLS → is_in_range d ≡ true → position (declares d.name d.arity) ds
    ≡ None → IsTrue (is_program cs rs)
symbol_pushed ds cs rs d e h l r new =
    let k = kept_by ds rs h in
    let most : length cs ≤ MAX_SYMBOLS = let a = ap length e in let b = length-append ds (d ∷ []) in
    omega (arith, a, b, l) in
    keep cs rs record {
      symbols = most;
      rules = k.rules;
      ranges = rw e (list_all-push is_in_range ds d k.ranges r);
      distinct = rw e (distinct_more ds d k.distinct (passes_none _ ds new));
      fitting = rw e (fits_more ds d rs k.fitting);
    }

pub new_in_range : (name : List ℕ) (arity : ℕ) → IsTrue (is_name name) → length name ≤ MAX_NAME → arity ≤ MAX_ARITY
    → is_in_range record { name = name; arity = arity; weight = default_weight } ≡ true
new_in_range name arity w l a = and_from _ _ (and_from _ _ (and_from _ _ w (to_le _ _ l)) (to_le _ _ a)) refl

pub not_declared : (ds : List Declaration) (name : List ℕ) (arity : ℕ) → position (declares name arity) ds ≡ None
    → list_any (declares name arity) ds ≡ false
not_declared ds name arity h = passes_none _ ds h

-- what adding a symbol leaves of the invariant, whether memory was there or not
pub after_adding : {E : Type 0} (ds cs : List Declaration) (rs : List Rule) (name : List ℕ) (arity : ℕ) (n : List ℕ)
    (a : ℕ) (r : Result (Unit {0}) E) → n ≡ name → a ≡ arity
    → OnOk r (cs ≡ ds ++ record { name = n; arity = a; weight = default_weight } ∷ []) → OnErr r (cs ≡ ds)
    → IsTrue (is_program ds rs) → length ds < MAX_SYMBOLS → IsTrue (is_name name) → length name ≤ MAX_NAME
    → arity ≤ MAX_ARITY → position (declares name arity) ds ≡ None → IsTrue (is_program cs rs)
after_adding ds cs rs name arity n a (Ok x) p q e f h l w u v new =
    symbol_pushed ds cs rs record { name = name; arity = arity; weight = default_weight }
    (e ∙ (λ i. ds ++ record { name = p i; arity = q i; weight = default_weight } ∷ [])) h l
    (new_in_range name arity w u v) new
after_adding ds cs rs name arity n a (Err x) p q e f h l w u v new = rw f h

-- what the table has at a place is the declaration there
pub found : (r : Option (Bor Symbol × Bor Weight)) (es : List (Symbol × Weight)) (i : ℕ) → option_map deref_pair r
    ≡ slice_get es i → option_map (λ p. declared (p.0.now, p.1.now)) r ≡ slice_get (map declared es) i
found r es i h = by r ∙ ap (option_map declared) h ∙ sym (slice_get-map declared es i)
  where
    by : (r : Option (Bor Symbol × Bor Weight)) → option_map (λ p. declared (p.0.now, p.1.now)) r
        ≡ option_map declared (option_map deref_pair r)
    by None = refl
    by (Some p) = refl

pub is_there : {A B : Type 0} (f : A → B) (r : Option A) (xs : List B) (i : ℕ) → option_map f r ≡ slice_get xs i
    → i < length xs → IsSome r
is_there f (Some x) xs i h l = refl
is_there f None [] i h l = absurd (omega arith)
is_there f None (x ∷ xs) zero h l = absurd (let m : ◌≡◌ {A = Option _} None (Some x) = h in cc)
is_there f None (x ∷ xs) (suc i) h l = is_there f None xs i h (omega arith)

-- what is declared has few arguments
pub few_arguments : (ds : List Declaration) (rs : List Rule) (name : List ℕ) (n i : ℕ) → IsTrue (is_program ds rs)
    → Some i ≡ position (declares name n) ds → n ≤ MAX_ARITY
few_arguments ds rs name n i h e = by (nat_le n MAX_ARITY) refl
  where
    by : (b : Bool) → nat_le n MAX_ARITY ≡ b → n ≤ MAX_ARITY
    by true q = le_from n MAX_ARITY q
    by false q = absurd (let m : ◌≡◌ {A = Option ℕ} (Some i) None =
        e ∙ not_declared_long ds rs name n h (inr (grind (arith, nat_tests))) in cc)
