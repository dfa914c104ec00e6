-- The first place at which a test passes.
use Rattle.std.proofs.Common.{◌≡◌, ℕ, suc, ◌+◌, List, [], ◌∷◌, ◌++◌, length, Bool, true, false, not, cond, ◌||◌, nat_lt}
use Rattle.std.proofs.Common.{nat_eq, Option, Some, None, option_map, is_some, position, refl, sym, ap, ◌∙◌, subst}
use Rattle.std.proofs.Common.{arith}
use Rattle.std.proofs.lemmas.Bool.{false≢true, and_parts}
use Rattle.std.proofs.lemmas.Bool.Decides.{nat_tests}
use Rattle.std.proofs.lemmas.Option.{none-some, same_Some}
use Rattle.std.specs.List.{list_any, position_or_len, slice_get}
use Rattle.std.specs.Str.{bytes_eq}
use Rattle.chr_base.specs.ProgramTests.{Declaration, declares, takes}

abbrev pub place : {A : Type 0} → (A → Bool) → List A → Option ℕ
place p [] = None
place p (x ∷ xs) = cond (p x) (Some 0) (option_map suc (place p xs))

within : (b : Bool) (k n : ℕ) → nat_lt k n ≡ b → cond (nat_lt (1 + k) (suc n)) (Some (1 + k)) None
    ≡ option_map suc (cond b (Some k) None)
within true k n h = let e : nat_lt (1 + k) (suc n) ≡ true = grind (arith, nat_tests) in
    ap (λ b. cond b (Some (1 + k)) None) e ∙ ap Some (omega arith)
within false k n h = let e : nat_lt (1 + k) (suc n) ≡ false = grind (arith, nat_tests) in
    ap (λ b. cond b (Some (1 + k)) None) e

at_front : (n : ℕ) → cond {A = Option ℕ} (nat_lt 0 (suc n)) (Some 0) None ≡ Some 0
at_front n = let e : nat_lt 0 (suc n) ≡ true = grind (arith, nat_tests) in
    ap (λ b. cond {A = Option ℕ} b (Some 0) None) e

step : (b : Bool) (k n : ℕ) (rest : Option ℕ) → cond (nat_lt k n) (Some k) None ≡ rest
    → cond (nat_lt (cond (not b) (1 + k) 0) (suc n)) (Some (cond (not b) (1 + k) 0)) None
    ≡ cond b (Some 0) (option_map suc rest)
step true k n rest h = at_front n
step false k n rest h = within (nat_lt k n) k n refl ∙ ap (option_map suc) h

pub position_is : {A : Type 0} (p : A → Bool) (xs : List A) → position p xs ≡ place p xs
position_is p [] = refl
position_is p (x ∷ xs) = step (p x) (position_or_len p xs) (length xs) (place p xs) (position_is p xs)

-- what is found in front is found there still, whatever follows
pub place_front : {A : Type 0} (p : A → Bool) (xs ys : List A) (i : ℕ) → place p xs ≡ Some i → place p (xs ++ ys)
    ≡ Some i
place_front p [] ys i h = absurd (none-some i h)
place_front p (x ∷ xs) ys i h = by (p x) (place p xs) refl h (place_front p xs ys)
  where
    by : (b : Bool) (o : Option ℕ) → place p xs ≡ o → cond b (Some 0) (option_map suc o) ≡ Some i
        → ((j : ℕ) → place p xs ≡ Some j → place p (xs ++ ys) ≡ Some j)
        → cond b (Some 0) (option_map suc (place p (xs ++ ys))) ≡ Some i
    by true o is e more = e
    by false None is e more = absurd (none-some i e)
    by false (Some j) is e more = ap (option_map suc) (more j is) ∙ e

some_suc : (o : Option ℕ) → is_some (option_map suc o) ≡ is_some o
some_suc None = refl
some_suc (Some i) = refl

place_any : {A : Type 0} (p : A → Bool) (xs : List A) → is_some (place p xs) ≡ list_any p xs
place_any p [] = refl
place_any p (x ∷ xs) = by (p x) (place_any p xs)
  where
    by : (b : Bool) → is_some (place p xs) ≡ list_any p xs → is_some (cond b (Some 0) (option_map suc (place p xs)))
        ≡ (b || list_any p xs)
    by true h = refl
    by false h = some_suc (place p xs) ∙ h

pub position_any : {A : Type 0} (p : A → Bool) (xs : List A) → is_some (position p xs) ≡ list_any p xs
position_any p xs = ap is_some (position_is p xs) ∙ place_any p xs

pub no_position : {A : Type 0} (p : A → Bool) (xs : List A) → list_any p xs ≡ false → position p xs ≡ None
no_position p xs h = by (position p xs) (position_any p xs ∙ h)
  where
    by : (o : Option ℕ) → is_some o ≡ false → o ≡ None
    by None e = refl
    by (Some i) e = absurd (false≢true (sym e))

-- what holds at the place that is found
at_place : {A : Type 0} (p : A → Bool) (Q : Option A → Type 0) (xs : List A) (i : ℕ)
    → ((x : A) → p x ≡ true → Q (Some x)) → place p xs ≡ Some i → Q (slice_get xs i)
at_place p Q [] i good h = absurd (none-some i h)
at_place {A = A} p Q (x ∷ xs) i good h = by (p x) refl h (λ k is. at_place p Q xs k good is)
  where
    later : (o : Option ℕ) → place p xs ≡ o → option_map suc o ≡ Some i
        → ((k : ℕ) → place p xs ≡ Some k → Q (slice_get xs k)) → Q (slice_get (x ∷ xs) i)
    later None is e further = absurd (none-some i e)
    later (Some k) is e further =
        let P : ℕ → Type 0 = λ n. Q (slice_get (x ∷ xs) n) in
        subst P (same_Some _ _ e) (further k is)

    by : (b : Bool) → p x ≡ b → cond b (Some 0) (option_map suc (place p xs)) ≡ Some i
        → ((k : ℕ) → place p xs ≡ Some k → Q (slice_get xs k)) → Q (slice_get (x ∷ xs) i)
    by true is e further = let P : ℕ → Type 0 = λ n. Q (slice_get (x ∷ xs) n) in subst P (same_Some _ _ e) (good x is)
    by false is e further = later (place p xs) refl e further

-- a declared symbol takes as many arguments as it was looked up with
pub declared_takes : (w : List ℕ) (n : ℕ) (ds : List Declaration) (i : ℕ) → position (declares w n) ds ≡ Some i
    → takes (slice_get ds i) n ≡ true
declared_takes w n ds i h =
    at_place (declares w n) (λ o. takes o n ≡ true) ds i
    (λ d good. takes_so d (and_parts (bytes_eq w d.name) (nat_eq n d.arity) good).1)
    (sym (position_is (declares w n) ds) ∙ h)
  where
    takes_so : (d : Declaration) → nat_eq n d.arity ≡ true → nat_eq d.arity n ≡ true
    takes_so d e = grind (arith, nat_tests)

-- what stands at the place that is found passes the test
pub found_at : {A : Type 0} (p : A → Bool) (xs : List A) (i : ℕ) → place p xs ≡ Some i → (x : A)
    × (slice_get xs i ≡ Some x) × (p x ≡ true)
found_at {A = A} p xs i h = at_place p (λ o. (x : A) × (o ≡ Some x) × (p x ≡ true)) xs i (λ x good. (x, refl, good)) h
