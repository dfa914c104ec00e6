-- What `parse` reads is the value of the digits.
use Rattle.std.proofs.Common.{◌≡◌, ℕ, ℤ, List, [], ◌∷◌, drop, Bool, true, false, cond, ◌==◌, Option, Some, None, Result}
use Rattle.std.proofs.Common.{Ok, Err, option_and_then, refl, sym, ap, ◌∙◌, subst, arith, rules}
use Rattle.std.specs.Prelude.{pos, negsuc}
use Rattle.std.proofs.lemmas.Bool.{false≢true}
use Rattle.std.proofs.lemmas.Bool.Decides.{nat_tests}
use Rattle.std.proofs.lemmas.Option.{none-some, same_Some}
use Rattle.std.proofs.lemmas.Str.Parse.{IsNumeralModel, numerals_by_value, parse_signed_minus, parse_signed_digits}
use Rattle.std.proofs.lemmas.Str.{IsUtf8-from_ascii}
use Rattle.std.proofs.lemmas.Str.Ascii.{IsAscii-cons, IsAscii-nil}
use Rattle.std.specs.Int.{w64}
use Rattle.std.specs.List.{list_all}
use Rattle.std.specs.Result.{OkIff, result_ok}
use Rattle.std.specs.Str.{IsUtf8, IsAscii}
use Rattle.std.specs.Str.Parse.{ParsesSigned, digits_value, starts_with_minus}
use Rattle.chr_base.specs.declared.weight.Weight.{Weight}
use Rattle.chr_base.specs.Names.{is_digit}
use Rattle.chr_base.specs.Weights.{is_weight}
use Rattle.chr_read.specs.Numbers.{is_numeral, unsigned, signed, number_of, second_number_of, checked_weight, as_weight}
use Rattle.chr_read.specs.Numbers.{weight_named_by}

pub own : IsNumeralModel (λ ds. list_all is_digit ds ≡ true) (digits_value 10)
own = numerals_by_value _ (search rules)

-- a value that comes just where a test passes
by_test : {E : Type 0} (r : Result ℤ E) (Q : Type 0) (v : ℤ) (t : Bool) → OkIff r Q v → (t ≡ true → Q) → (Q → t ≡ true)
    → result_ok r ≡ cond t (Some v) None
by_test (Ok x) Q v true h to from = ap Some h.1
by_test (Ok x) Q v false h to from = absurd (false≢true (from h.0))
by_test (Err e) Q v true h to from = absurd (h (to refl))
by_test (Err e) Q v false h to from = refl

by_sign : {E : Type 0} (minus : Bool) (w : List ℕ) (r : Result ℤ E) → starts_with_minus w ≡ minus
    → ParsesSigned w64 10 w r → is_numeral (cond minus (drop 1 w) w) ≡ true
    → result_ok r ≡ signed minus (digits_value 10 (cond minus (drop 1 w) w))
by_sign true w r is h num =
    by_test r _ _ _ (parse_signed_minus own w64 w r h (grind (arith, nat_tests))) (λ t. grind (arith, nat_tests))
    (λ q. grind (arith, nat_tests))
by_sign false w r is h num =
    by_test r _ _ _ (parse_signed_digits own w64 w r h (grind (arith, nat_tests))) (λ t. grind (arith, nat_tests))
    (λ q. grind (arith, nat_tests))

pub parsed : {E : Type 0} (w : List ℕ) (r : Result ℤ E) → ParsesSigned w64 10 w r → is_numeral (unsigned w) ≡ true
    → result_ok r ≡ number_of w
parsed w r h num =
    by_sign (starts_with_minus w) w r refl h num ∙ sym
    (ap (λ b. cond b (signed (starts_with_minus w) (digits_value 10 (unsigned w))) None) num)

digits_are_ascii : (ds : List ℕ) → list_all is_digit ds ≡ true → IsAscii ds
digits_are_ascii [] h = IsAscii-nil
digits_are_ascii (b ∷ bs) h = IsAscii-cons b bs (grind (arith, nat_tests))
    (digits_are_ascii bs (grind (arith, nat_tests)))

sign_is_ascii : (w : List ℕ) → is_numeral (unsigned w) ≡ true → IsAscii w
sign_is_ascii [] h = IsAscii-nil
sign_is_ascii (b ∷ bs) h = with_sign (b == 45) refl h
  where
    with_sign : (m : Bool) → (b == 45) ≡ m → is_numeral (cond m bs (b ∷ bs)) ≡ true → IsAscii (b ∷ bs)
    with_sign true is h = IsAscii-cons b bs (grind (arith, nat_tests)) (digits_are_ascii bs (grind (arith, nat_tests)))
    with_sign false is h = digits_are_ascii (b ∷ bs) (grind (arith, nat_tests))

pub numerals_are_text : (w : List ℕ) → is_numeral (unsigned w) ≡ true → IsUtf8 w
numerals_are_text w h = IsUtf8-from_ascii w (sign_is_ascii w h)

-- ---- a weight that is named is one that a symbol may have

checked_is_weight : (v w : Weight) → checked_weight v ≡ Some w → is_weight w ≡ true
checked_is_weight v w h = by (is_weight v) refl h
  where
    by : (b : Bool) → is_weight v ≡ b → cond b (Some v) None ≡ Some w → is_weight w ≡ true
    by true good e = subst (λ x. is_weight x ≡ true) (same_Some v w e) good
    by false bad e = absurd (none-some w e)

value_is_weight : (x y : ℤ) (w : Weight) → as_weight x y ≡ Some w → is_weight w ≡ true
value_is_weight (pos m) (pos n) w h = checked_is_weight record { first = m; second = n } w h
value_is_weight (pos m) (negsuc n) w h = absurd (none-some w h)
value_is_weight (negsuc m) y w h = absurd (none-some w h)

pub named_is_weight : (first : List ℕ) (second : Option (List ℕ)) (w : Weight) → weight_named_by first second ≡ Some w
    → is_weight w ≡ true
named_is_weight first second w h = by (number_of first) (second_number_of second) h
  where
    by : (v o : Option ℤ) → option_and_then (λ x. option_and_then (as_weight x) o) v ≡ Some w → is_weight w ≡ true
    by None o e = absurd (none-some w e)
    by (Some x) None e = absurd (none-some w e)
    by (Some x) (Some y) e = value_is_weight x y w e
