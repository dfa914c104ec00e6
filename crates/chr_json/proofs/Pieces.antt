-- Texts of JSON without escapes, piece by piece.
use Rattle.std.proofs.Common.{◌≡◌, ℕ, ◌+◌, ◌*◌, ◌-◌, ◌/◌, ◌%◌, ◌<◌, ◌≤◌, ◌^◌, List, [], ◌∷◌, ◌++◌, take, drop, get_or}
use Rattle.std.proofs.Common.{length, Bool, true, false, cond, decimal, refl, sym, ap, ◌∙◌, append_assoc, arith, suc}
use Rattle.std.specs.List.{prefix_len}
use Rattle.std.proofs.lemmas.Bool.Decides.{nat_tests}
use Rattle.std.proofs.lemmas.Fmt.{decimal_step, decimal_digit}
use Rattle.std.proofs.lemmas.Grind.{pow_more}
use Rattle.std.proofs.lemmas.List.{drop_more}
use Rattle.std.proofs.Math.Nat.{pow-le-pow_right}
use Rattle.json.specs.Print.{escape, escape_byte, quoted}
use Rattle.json.proofs.Printed.Strings.{escape_byte_plain}
use Rattle.chr_json.specs.working.Compact.{is_bare}

-- one digit more, after digits that are not just a zero
pub one_digit_more : (v d : ℕ) → 0 < v → 48 ≤ d → d < 58 → v * 10 + (d - 48) < 2 ^ 64 → decimal (v * 10 + (d - 48))
    ≡ decimal v ++ d ∷ []
one_digit_more v d some low high small =
    let front : (v * 10 + (d - 48)) / 10 ≡ v = omega arith in
    let end : 48 + (v * 10 + (d - 48)) % 10 ≡ d = omega arith in
    decimal_step (v * 10 + (d - 48)) (omega arith) small ∙ (λ i. decimal (front i) ++ (end i ∷ []))

-- the digits so far, and the bytes that are left, with one digit more
pub digits_more : (v d : ℕ) (xs : List ℕ) (i : ℕ) → i < length xs → d ≡ get_or xs i 0 → 0 < v → 48 ≤ d → d < 58
    → v * 10 + (d - 48) < 2 ^ 64
    → decimal v ++ drop i xs ≡ decimal (v * 10 + (d - 48)) ++ drop (i + 1) xs
digits_more v d xs i within is some low high small =
    ap (λ l. decimal v ++ l) (drop_more xs i 0 within ∙ ap (λ x. x ∷ drop (i + 1) xs) (sym is))
    ∙ sym (append_assoc (decimal v) (d ∷ []) (drop (i + 1) xs))
    ∙ ap (λ l. l ++ drop (i + 1) xs) (sym (one_digit_more v d some low high small))

bare_byte : (x : ℕ) → is_bare x ≡ true → escape_byte x ≡ x ∷ []
bare_byte x h = escape_byte_plain x (λ e. grind (arith, nat_tests)) (λ e. grind (arith, nat_tests))
    (grind (arith, nat_tests))

bare_case : (b : Bool) (x : ℕ) (xs : List ℕ) (n : ℕ) → (b ≡ true → escape_byte x ≡ x ∷ []) → escape (take n xs)
    ≡ take n xs → escape (take (cond b (1 + n) 0) (x ∷ xs)) ≡ take (cond b (1 + n) 0) (x ∷ xs)
bare_case false x xs n here rest = refl
bare_case true x xs n here rest =
    let more : 1 + n ≡ suc n = omega arith in
    ap (λ k. escape (take k (x ∷ xs))) more ∙ (λ i. here refl i ++ rest i) ∙ sym (ap (λ k. take k (x ∷ xs)) more)

-- the bytes at the front that stand for themselves are their own text
pub bare_front : (xs : List ℕ) → escape (take (prefix_len is_bare xs) xs) ≡ take (prefix_len is_bare xs) xs
bare_front [] = refl
bare_front (x ∷ xs) = bare_case (is_bare x) x xs (prefix_len is_bare xs) (bare_byte x) (bare_front xs)

-- a name that has no escapes, between quotation marks
pub plain_text : (text inner named back rest : List ℕ) → text ≡ 34 ∷ inner → inner ≡ named ++ back → back ≡ 34 ∷ rest
    → escape named ≡ named → text ≡ quoted named ++ rest
plain_text text inner named back rest opened cut closed plain =
    opened ∙ ap (λ l. 34 ∷ l) (cut ∙ (λ i. sym plain i ++ closed i) ∙ sym (append_assoc (escape named) (34 ∷ []) rest))

-- the bytes before the first that does not stand for itself
pub bare_name : (inner bytes named : List ℕ) → bytes ≡ take (prefix_len is_bare inner) inner → named ≡ bytes
    → escape named ≡ named
bare_name inner bytes named front same = ap escape (same ∙ front) ∙ bare_front inner ∙ sym (same ∙ front)

-- a power of ten bounds a number, and the next one that with one digit more
pub digit_bound : (v d place : ℕ) → v < 10 ^ (place + 1) → 48 ≤ d → d ≤ 57 → v * 10 + (d - 48) < 10 ^ (place + 1 + 1)
digit_bound v d place below low high = rw pow_more (omega arith)

-- seventeen digits after the first leave a number far below what 64 bits have room for
pub digit_room : (v place : ℕ) → v < 10 ^ (place + 1) → place < 17 → v * 10 + 9 < 2 ^ 63
digit_room v place below few =
    let most : 10 ^ (place + 1) ≤ 10 ^ 17 = pow-le-pow_right (omega arith) {i = place + 1} {j = 17} (omega arith) in
    omega (arith, most)

-- a number that has a digit before the others
pub digit_first : (d : ℕ) (rest : List ℕ) → 48 ≤ d → d < 58 → d ∷ rest ≡ decimal (d - 48) ++ rest
digit_first d rest low high =
    let back : 48 + (d - 48) ≡ d = omega arith in
    sym (ap (λ l. l ++ rest) (decimal_digit (d - 48) (omega arith) ∙ ap (λ x. x ∷ []) back))
