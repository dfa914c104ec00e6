-- The variables `V1`, `V2`, .. of a canonical text get back the numbers that they were written for.
use Rattle.std.proofs.Common.{◌≡◌, ℕ, zero, suc, ◌+◌, ◌-◌, ◌^◌, ◌<◌, ◌≤◌, List, [], ◌∷◌, ◌++◌, length, map, Bool, true}
use Rattle.std.proofs.Common.{false, cond, ◌&&◌, nat_lt, nat_le, nat_eq, Some, None, unwrap_or, is_some, position, refl}
use Rattle.std.proofs.Common.{ap, ◌∙◌, subst, length-append, arith}
use Rattle.std.specs.Prelude.{pos, codes, decimal}
use Rattle.std.specs.List.{list_any, AllByRecursion}
use Rattle.std.specs.Str.{bytes_eq}
use Rattle.std.proofs.lemmas.Bool.{eqb-true, and_parts, or_from}
use Rattle.std.proofs.lemmas.Bool.Decides.{nat_tests}
use Rattle.std.proofs.lemmas.Fmt.{decimal_injective}
use Rattle.std.proofs.lemmas.List.Folds.{list_any-append}
use Rattle.std.proofs.lemmas.Option.{none-some, same_Some}
use Rattle.std.proofs.lemmas.Slice.Eq.{bytes_eq-Decides}
use Rattle.chr_base.specs.declared.term.Term as base
use Rattle.chr_base.specs.declared.term.Term.TheVariants.{Variable, Constant}
use Rattle.chr_base.specs.RuleTests.{numbered}
use Rattle.chr_read.specs.Faults.{is_anonymous}
use Rattle.chr_read.specs.working.RuleParts.{Names, with_variable}
use Rattle.chr_read.specs.Resolving.{met_at, variable_of, head_terms, after_terms}
use Rattle.chr_read.proofs.Decimals.{number_back}
use Rattle.chr_read.proofs.DeclarationsBack.{place_skip}
use Rattle.chr_read.proofs.Numbering.{itself}
use Rattle.chr_read.proofs.Positions.{place, position_is, no_position, place_front}
use Rattle.chr_read.proofs.WrittenForms.{written_term}
use Rattle.chr_read.proofs.WrittenTokens.{IsWritable}

abbrev pub variable_name : ℕ → List ℕ
variable_name x = codes "V" ++ decimal x

-- the names of the first n variables
abbrev pub first_names : ℕ → Names
first_names zero = []
first_names (suc n) = first_names n ++ variable_name (suc n) ∷ []

pub names_length : (n : ℕ) → length (first_names n) ≡ n
names_length zero = refl
names_length (suc n) = let a = length-append (first_names n) (variable_name (suc n) ∷ []) in let b = names_length n in
    omega (arith, a, b)

tail_same : (x y : ℕ) → variable_name x ≡ variable_name y → decimal x ≡ decimal y
tail_same x y e = ap rest e
  where
    rest : List ℕ → List ℕ
    rest [] = []
    rest (b ∷ bs) = bs

other_name : (x y : ℕ) → x < 2 ^ 64 → y < 2 ^ 64 → (x ≡ y → ⊥) → bytes_eq (variable_name x) (variable_name y) ≡ false
other_name x y l m ne = by (bytes_eq (variable_name x) (variable_name y)) refl
  where
    by : (t : Bool) → bytes_eq (variable_name x) (variable_name y) ≡ t → bytes_eq (variable_name x) (variable_name y)
        ≡ false
    by false e = e
    by true e = absurd (ne (decimal_injective x y l m (tail_same x y
        ((bytes_eq-Decides (variable_name x) (variable_name y)).0 e))))

not_named : (x n : ℕ) → x < 2 ^ 64 → n < x → list_any (bytes_eq (variable_name x)) (first_names n) ≡ false
not_named x zero l h = refl
not_named x (suc n) l h =
    list_any-append (bytes_eq (variable_name x)) (first_names n) (variable_name (suc n) ∷ [])
    ∙ or_from (list_any (bytes_eq (variable_name x)) (first_names n)) _ (not_named x n l (omega (arith, h)))
    (or_from (bytes_eq (variable_name x) (variable_name (suc n))) false
    (other_name x (suc n) l (omega (arith, h, l)) (λ e. omega (arith, h, e))) refl)

-- a variable that was met stands before its number
named_place : (x n : ℕ) → suc x ≤ n → n < 2 ^ 64 → place (bytes_eq (variable_name (suc x))) (first_names n) ≡ Some x
named_place x zero l m = absurd (omega (arith, l))
named_place x (suc n) l m = by (nat_le (suc x) n) refl (λ h. named_place x n h (omega (arith, m)))
  where
    last : suc x ≡ suc n → place (bytes_eq (variable_name (suc x))) (first_names n ++ variable_name (suc n) ∷ [])
        ≡ Some x
    last s =
        place_skip (bytes_eq (variable_name (suc x))) (first_names n) (variable_name (suc n)) []
        (not_named (suc x) n (omega (arith, l, m)) (omega (arith, s)))
        (subst (λ y. bytes_eq (variable_name (suc x)) (variable_name y) ≡ true) s (itself (variable_name (suc x))))
        ∙ ap Some (let g = names_length n in omega (arith, g, s))

    by : (t : Bool) → nat_le (suc x) n ≡ t → (suc x ≤ n → place (bytes_eq (variable_name (suc x))) (first_names n)
        ≡ Some x)
        → place (bytes_eq (variable_name (suc x))) (first_names n ++ variable_name (suc n) ∷ []) ≡ Some x
    by true e more = place_front (bytes_eq (variable_name (suc x))) (first_names n) (variable_name (suc n) ∷ []) x
        (more (grind (arith, nat_tests)))
    by false e more = last (let g : n < suc x = grind (arith, nat_tests) in omega (arith, g, l))

-- ---- where a name is met

not_anonymous : (x : ℕ) → is_anonymous (variable_name x) ≡ false
not_anonymous x = refl

pub met : (x n : ℕ) → suc x ≤ n → n < 2 ^ 64 → met_at (first_names n) (variable_name (suc x)) ≡ Some x
met x n l m =
    ap (λ b. cond b None (position (bytes_eq (variable_name (suc x))) (first_names n))) (not_anonymous (suc x))
    ∙ position_is (bytes_eq (variable_name (suc x))) (first_names n) ∙ named_place x n l m

pub not_met : (x n : ℕ) → x < 2 ^ 64 → n < x → met_at (first_names n) (variable_name x) ≡ None
not_met x n l h =
    ap (λ b. cond b None (position (bytes_eq (variable_name x)) (first_names n))) (not_anonymous x)
    ∙ no_position (bytes_eq (variable_name x)) (first_names n) (not_named x n l h)

pub variable_back : (x n : ℕ) → suc x ≤ n → n < 2 ^ 64 → variable_of (first_names n) (variable_name (suc x)) ≡ suc x
variable_back x n l m = ap (λ o. unwrap_or o (length (first_names n)) + 1) (met x n l m) ∙ omega arith

abbrev pub Numbers : ℕ → List base.Term → ℕ → Type 0
Numbers m ts n = (head_terms (first_names m) (map written_term ts) ≡ ts)
    × (after_terms (first_names m) (map written_term ts) ≡ first_names n)

one_number : (m n x : ℕ) (ts : List base.Term) → x < 2 ^ 64 → m < 2 ^ 64 → cond (nat_eq x (m + 1)) (numbered (m + 1) ts)
    (cond (nat_lt 0 x && nat_le x m) (numbered m ts) None) ≡ Some n
    → ((k : ℕ) → k < 2 ^ 64 → numbered k ts ≡ Some n → Numbers k ts n) → Numbers m (Variable x ∷ ts) n
one_number m n x ts l k h more = by (nat_eq x (m + 1)) refl h
  where
    is_new : x ≡ suc m → numbered (m + 1) ts ≡ Some n → Numbers m (Variable x ∷ ts) n
    is_new e g =
        let none = not_met x m l (omega (arith, e)) in
        let number : variable_of (first_names m) (variable_name x) ≡ x =
        ap (λ o. unwrap_or o (length (first_names m)) + 1) none ∙ (let a = names_length m in omega (arith, a, e)) in
        let names : with_variable (first_names m) (variable_name x) ≡ first_names (suc m) =
        ap (λ o. cond (is_some o) (first_names m) (first_names m ++ variable_name x ∷ [])) none
        ∙ ap (λ y. first_names m ++ variable_name y ∷ []) e in
        let step : m + 1 ≡ suc m = omega arith in
        let later = more (suc m) (omega (arith, e, l)) (subst (λ y. numbered y ts ≡ Some n) step g) in (
          (λ i. Variable (number i) ∷ head_terms (names i) (map written_term ts)) ∙ ap (λ us. Variable x ∷ us) later.0,
          ap (λ ns. after_terms ns (map written_term ts)) names ∙ later.1,
        )

    is_old : (y : ℕ) → x ≡ suc y → x ≤ m → numbered m ts ≡ Some n → Numbers m (Variable x ∷ ts) n
    is_old y e g h =
        let found : met_at (first_names m) (variable_name x) ≡ Some y =
        ap (λ z. met_at (first_names m) (variable_name z)) e ∙ met y m (omega (arith, e, g)) k in
        let number : variable_of (first_names m) (variable_name x) ≡ x =
        ap (λ o. unwrap_or o (length (first_names m)) + 1) found ∙ omega (arith, e) in
        let names : with_variable (first_names m) (variable_name x) ≡ first_names m =
        ap (λ o. cond (is_some o) (first_names m) (first_names m ++ variable_name x ∷ [])) found in
        let later = more m k h in (
          (λ i. Variable (number i) ∷ head_terms (names i) (map written_term ts)) ∙ ap (λ us. Variable x ∷ us) later.0,
          ap (λ ns. after_terms ns (map written_term ts)) names ∙ later.1,
        )

    old : (t : Bool) → (nat_lt 0 x && nat_le x m) ≡ t → cond t (numbered m ts) None ≡ Some n
        → Numbers m (Variable x ∷ ts) n
    old false e g = absurd (none-some n g)
    old true e g =
        let p = and_parts (nat_lt 0 x) (nat_le x m) e in
        let p0 = p.0 in let p1 = p.1 in
        is_old (x - 1) (let some : 0 < x = grind (arith, nat_tests) in omega (arith, some)) (grind (arith, nat_tests)) g

    by : (t : Bool) → nat_eq x (m + 1) ≡ t → cond t (numbered (m + 1) ts)
        (cond (nat_lt 0 x && nat_le x m) (numbered m ts) None) ≡ Some n → Numbers m (Variable x ∷ ts) n
    by true e g = is_new (let s = eqb-true x (m + 1) e in omega (arith, s)) g
    by false e g = old (nat_lt 0 x && nat_le x m) refl g

abbrev pub AreSmall : List base.Term → Type 0
AreSmall ts = AllByRecursion IsWritable ts

pub terms_back : (m n : ℕ) (ts : List base.Term) → m < 2 ^ 64 → AreSmall ts → numbered m ts ≡ Some n → Numbers m ts n
terms_back m n [] l h g = (refl, ap first_names (same_Some m n g))
terms_back m n (Constant c ∷ ts) l h g =
    let later = terms_back m n ts l h.1 g in
    let same = ap (λ o. unwrap_or o (pos 0)) (number_back c h.0) in
    ((λ i. Constant (same i) ∷ later.0 i), later.1)
terms_back m n (Variable x ∷ ts) l h g = one_number m n x ts h.0 l g (λ k b e. terms_back k n ts b h.1 e)
