-- Numbers that are printed are read again.
use Rattle.std.proofs.Common.{◌≡◌, ℕ, zero, suc, ◌+◌, ◌^◌, ◌<◌, ◌≤◌, List, [], ◌∷◌, length, true, false, not, cond}
use Rattle.std.proofs.Common.{◌==◌, nat_lt, nat_le, nat_eq, Bool, Some, None, option_and_then, inl, inr, refl, sym, ap}
use Rattle.std.proofs.Common.{◌∙◌, arith}
use Rattle.std.specs.Prelude.{ℤ, pos, negsuc, neg_ℤ, int_le, decimal}
use Rattle.std.specs.Fmt.{signed_decimal}
use Rattle.std.specs.List.{list_all}
use Rattle.std.specs.Str.Parse.{digits_value}
use Rattle.std.proofs.lemmas.Bool.Decides.{nat_tests}
use Rattle.std.proofs.lemmas.Fmt.{decimal_nonempty, decimal_digit, digits_decimal, digits_value-decimal}
use Rattle.std.proofs.lemmas.Bool.{eqb-true, and_from, and_parts}
use Rattle.chr_base.specs.declared.limits.TheConstants.{MAX_ARITY, MAX_WEIGHT}
use Rattle.chr_base.specs.declared.weight.Weight.{Weight}
use Rattle.chr_base.specs.Values.{is_value}
use Rattle.chr_base.specs.Weights.{is_weight}
use Rattle.chr_syntax.specs.Lexemes.{IsDigits, IsNumber}
use Rattle.chr_base.specs.Names.{is_digit}
use Rattle.chr_read.specs.Numbers.{is_numeral, signed, number_of, arity_of, second_number_of, as_weight}
use Rattle.chr_read.specs.Numbers.{weight_named_by}
use Rattle.chr_read.proofs.Numbers.{own}
use Rattle.chr_read.proofs.PlainBytes.{from_test}
use Rattle.chr_read.proofs.WrittenForms.{written_second}

-- ---- digits

are_digits : (w : List ℕ) → 0 < length w → list_all is_digit w ≡ true → IsDigits w
are_digits [] l h = absurd (omega arith)
are_digits (b ∷ bs) l h = from_test is_digit (b ∷ bs) h

are_number : (w : List ℕ) → 0 < length w → list_all is_digit w ≡ true → IsNumber w
are_number [] l h = absurd (omega arith)
are_number (b ∷ bs) l h = inl (from_test is_digit (b ∷ bs) h)

pub decimal_digits : (n : ℕ) → n < 2 ^ 64 → list_all is_digit (decimal n) ≡ true
decimal_digits n h = digits_decimal own n h

pub decimal_number : (n : ℕ) → n < 2 ^ 64 → IsNumber (decimal n)
decimal_number n h = are_number (decimal n) (decimal_nonempty n h) (decimal_digits n h)

-- ---- values

pub value_pos : (n : ℕ) → is_value (pos n) ≡ true → n < 2 ^ 63
value_pos n h = let e : nat_le n 9223372036854775807 ≡ true =
    (and_parts (int_le (neg_ℤ (pos (2 ^ 63))) (pos n)) _ h).1 in grind (arith, nat_tests)

pub value_neg : (n : ℕ) → is_value (negsuc n) ≡ true → n < 2 ^ 63
value_neg n h = let e : nat_le n 9223372036854775807 ≡ true =
    (and_parts (int_le (neg_ℤ (pos (2 ^ 63))) (negsuc n)) _ h).0 in grind (arith, nat_tests)

pub signed_number : (z : ℤ) → is_value z ≡ true → IsNumber (signed_decimal z)
signed_number (pos n) h = let l = value_pos n h in decimal_number n (omega (arith, l))
signed_number (negsuc n) h =
    let l = value_neg n h in let m : suc n < 2 ^ 64 = omega (arith, l) in
    inr (refl, are_digits (decimal (suc n)) (decimal_nonempty (suc n) m) (decimal_digits (suc n) m))

numeral : (w : List ℕ) → 0 < length w → list_all is_digit w ≡ true → is_numeral w ≡ true
numeral w l h = and_from (nat_lt 0 (length w)) _ (grind (arith, nat_tests)) h

plain_read : (w : List ℕ) (n : ℕ) → 0 < length w → list_all is_digit w ≡ true → digits_value 10 w ≡ n → n < 2 ^ 63
    → number_of w ≡ Some (pos n)
plain_read [] n l h v small = absurd (omega arith)
plain_read (b ∷ bs) n l h v small =
    let d = (and_parts (is_digit b) (list_all is_digit bs) h).0 in
    let no_minus : (b == 45) ≡ false = grind (arith, nat_tests) in
    let fits : nat_lt n (2 ^ 63) ≡ true = grind (arith, nat_tests) in
    ap (λ m. cond (is_numeral (cond m bs (b ∷ bs))) (signed m (digits_value 10 (cond m bs (b ∷ bs)))) None) no_minus
    ∙ ap (λ t. cond t (signed false (digits_value 10 (b ∷ bs))) None) (numeral (b ∷ bs) l h) ∙ ap (signed false) v
    ∙ ap (λ t. cond t (Some (pos n)) None) fits

pub number_back : (z : ℤ) → is_value z ≡ true → number_of (signed_decimal z) ≡ Some z
number_back (pos n) h =
    let l = value_pos n h in let m : n < 2 ^ 64 = omega (arith, l) in
    plain_read (decimal n) n (decimal_nonempty n m) (decimal_digits n m) (digits_value-decimal own n m) l
number_back (negsuc n) h =
    let l = value_neg n h in let m : suc n < 2 ^ 64 = omega (arith, l) in
    let fits : nat_le (suc n) (2 ^ 63) ≡ true = grind (arith, nat_tests) in
    ap (λ t. cond t (signed true (digits_value 10 (decimal (suc n)))) None)
    (numeral (decimal (suc n)) (decimal_nonempty (suc n) m) (decimal_digits (suc n) m))
    ∙ ap (signed true) (digits_value-decimal own (suc n) m) ∙ ap (λ t. cond t (Some (negsuc n)) None) fits

-- ---- arities and weights

pub arity_back : (n : ℕ) → n ≤ MAX_ARITY → arity_of (decimal n) ≡ Some n
arity_back n h = ap arity_of (decimal_digit n (omega (arith, h))) ∙ by n h
  where
    by : (n : ℕ) → n ≤ MAX_ARITY → arity_of ((48 + n) ∷ []) ≡ Some n
    by zero h = refl
    by (suc zero) h = refl
    by (suc (suc zero)) h = refl
    by (suc (suc (suc zero))) h = refl
    by (suc (suc (suc (suc zero)))) h = refl
    by (suc (suc (suc (suc (suc zero))))) h = refl
    by (suc (suc (suc (suc (suc (suc zero)))))) h = refl
    by (suc (suc (suc (suc (suc (suc (suc n))))))) h = absurd (omega (arith, h))

pub weight_number : (n : ℕ) → n ≤ MAX_WEIGHT → number_of (decimal n) ≡ Some (pos n)
weight_number n h = let m : n < 2 ^ 64 = omega (arith, h) in
    plain_read (decimal n) n (decimal_nonempty n m) (decimal_digits n m) (digits_value-decimal own n m)
    (omega (arith, h))

pub second_back : (w : Weight) → w.second ≤ MAX_WEIGHT → second_number_of (written_second w) ≡ Some (pos w.second)
second_back w h = by (nat_eq w.second 0) refl
  where
    by : (b : Bool) → nat_eq w.second 0 ≡ b → second_number_of (cond (not b) (Some (decimal w.second)) None)
        ≡ Some (pos w.second)
    by true e = ap (λ n. Some (pos n)) (sym (eqb-true w.second 0 e))
    by false e = weight_number w.second h

pub weight_back : (w : Weight) → w.first ≤ MAX_WEIGHT → w.second ≤ MAX_WEIGHT → is_weight w ≡ true
    → weight_named_by (decimal w.first) (written_second w) ≡ Some w
weight_back w f s h =
    ap (option_and_then (λ v. option_and_then (as_weight v) (second_number_of (written_second w))))
    (weight_number w.first f)
    ∙ ap (option_and_then (as_weight (pos w.first))) (second_back w s) ∙ ap (λ t. cond t (Some w) None) h
