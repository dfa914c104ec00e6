-- Clauses have no percent sign, no full stop and no bad byte.
use Rattle.std.proofs.Common.{◌≡◌, ℕ, ◌≤◌, List, [], ◌∷◌, ◌++◌, Bool, true, false, not, ◌==◌, ◌&&◌, nat_le, inl, inr}
use Rattle.std.proofs.Common.{refl, sym, ap, subst, arith}
use Rattle.std.specs.Prelude.{codes}
use Rattle.std.specs.List.{list_all}
use Rattle.std.proofs.lemmas.Bool.Decides.{nat_tests}
use Rattle.std.proofs.lemmas.Bool.{and_from, and_parts, or_right, or_left, not-true}
use Rattle.chr_syntax.specs.declared.clause.Comparator.{Comparator}
use Rattle.chr_syntax.specs.declared.clause.Comparator.TheVariants as c
use Rattle.chr_syntax.specs.declared.token.Sign.{Sign}
use Rattle.chr_syntax.specs.declared.token.Sign.TheVariants as s
use Rattle.chr_syntax.specs.Bytes.{is_layout, is_text_byte, is_text, percent, full_stop}
use Rattle.chr_syntax.specs.Tokens.{Tok, name, variable, number, compare, sign}
use Rattle.chr_base.specs.Names.{is_digit, is_word_byte}
use Rattle.chr_syntax.specs.Texts.{HasNo}
use Rattle.chr_syntax.specs.Lexemes.{AllAre, IsNumber, IsComparator, sign_text, IsLexeme, AreTokens}
use Rattle.chr_syntax.proofs.Cuts.{all_append}
use Rattle.chr_syntax.proofs.Lexemes.{lower_word, variable_word, digit_bounds}

abbrev pub is_plain : ℕ → Bool
is_plain b = is_text_byte b && (not (b == 37) && not (b == 46))

plain_between : (b : ℕ) → 47 ≤ b → b ≤ 126 → is_plain b ≡ true
plain_between b l h =
    let low : nat_le 32 b ≡ true = grind (arith, nat_tests) in
    let high : nat_le b 126 ≡ true = grind (arith, nat_tests) in
    let p : (b == 37) ≡ false = grind (arith, nat_tests) in
    let q : (b == 46) ≡ false = grind (arith, nat_tests) in
    and_from (is_text_byte b) _ (or_right (is_layout b) _ (and_from (nat_le 32 b) _ low high))
    (and_from (not (b == 37)) _ (ap not p) (ap not q))

word_low : (b : ℕ) → is_word_byte b ≡ true → 47 ≤ b
word_low b h = grind (arith, nat_tests)

word_high : (b : ℕ) → is_word_byte b ≡ true → b ≤ 126
word_high b h = grind (arith, nat_tests)

word_plain : (b : ℕ) → is_word_byte b ≡ true → is_plain b ≡ true
word_plain b h = plain_between b (word_low b h) (word_high b h)

digit_plain : (b : ℕ) → is_digit b ≡ true → is_plain b ≡ true
digit_plain b h = let d = digit_bounds b h in plain_between b (omega (arith, d)) (omega (arith, d))

layout_low : (b : ℕ) → is_layout b ≡ true → b ≤ 32
layout_low b h = grind (arith, nat_tests)

layout_plain : (b : ℕ) → is_layout b ≡ true → is_plain b ≡ true
layout_plain b h =
    let l = layout_low b h in
    let p : (b == 37) ≡ false = grind (arith, nat_tests) in
    let q : (b == 46) ≡ false = grind (arith, nat_tests) in
    and_from (is_text_byte b) _ (or_left (is_layout b) _ h) (and_from (not (b == 37)) _ (ap not p) (ap not q))

pub all_so : (p q : ℕ → Bool) → ((b : ℕ) → p b ≡ true → q b ≡ true) → (bs : List ℕ) → AllAre p bs → AllAre q bs
all_so p q f [] h = tt
all_so p q f (b ∷ bs) h = (f b h.0, all_so p q f bs h.1)

pub from_test : (p : ℕ → Bool) (bs : List ℕ) → list_all p bs ≡ true → AllAre p bs
from_test p [] h = tt
from_test p (b ∷ bs) h = let e = and_parts (p b) (list_all p bs) h in (e.0, from_test p bs e.1)

pub to_test : (p : ℕ → Bool) (bs : List ℕ) → AllAre p bs → list_all p bs ≡ true
to_test p [] h = refl
to_test p (b ∷ bs) h = and_from (p b) _ h.0 (to_test p bs h.1)

literal : (w v : List ℕ) → w ≡ v → list_all is_plain v ≡ true → AllAre is_plain w
literal w v e h = subst (AllAre is_plain) (sym e) (from_test is_plain v h)

comparator_plain : (x : Comparator) (w : List ℕ) → IsComparator x w → AllAre is_plain w
comparator_plain c.Less w h = literal w (codes "<") h refl
comparator_plain c.AtMost w h = literal w (codes "=<") h refl
comparator_plain c.Greater w h = literal w (codes ">") h refl
comparator_plain c.AtLeast w h = literal w (codes ">=") h refl
comparator_plain c.Equal w (inl h) = literal w (codes "=:=") h refl
comparator_plain c.Equal w (inr h) = literal w (codes "==") h refl
comparator_plain c.NotEqual w (inl h) = literal w (codes "=\\=") h refl
comparator_plain c.NotEqual w (inr h) = literal w (codes "\\==") h refl

sign_plain : (x : Sign) → list_all is_plain (sign_text x) ≡ true
sign_plain s.Simplify = refl
sign_plain s.Propagate = refl
sign_plain s.Directive = refl
sign_plain s.Equals = refl
sign_plain s.At = refl
sign_plain s.Backslash = refl
sign_plain s.Bar = refl
sign_plain s.Comma = refl
sign_plain s.Open = refl
sign_plain s.Close = refl
sign_plain s.Slash = refl

lexeme_plain : (t : Tok) (w : List ℕ) → IsLexeme t w → AllAre is_plain w
lexeme_plain (name v) [] h = tt
lexeme_plain (name v) (b ∷ bs) h = (word_plain b (lower_word b h.1.0), all_so is_word_byte is_plain word_plain bs h.1.1)
lexeme_plain (variable v) [] h = tt
lexeme_plain (variable v) (b ∷ bs) h = (
  word_plain b (variable_word b h.1.0),
  all_so is_word_byte is_plain word_plain bs h.1.1,
)
lexeme_plain (number v) w h = by w h.1
  where
    digits : (w : List ℕ) → AllAre is_digit w → AllAre is_plain w
    digits w h = all_so is_digit is_plain digit_plain w h

    by : (w : List ℕ) → IsNumber w → AllAre is_plain w
    by [] h = tt
    by (b ∷ bs) (inl h) = digits (b ∷ bs) h
    by (b ∷ []) (inr h) = absurd h.1
    by (b ∷ d ∷ bs) (inr h) = (subst (λ x. is_plain x ≡ true) (sym h.0) refl, digits (d ∷ bs) h.1)
lexeme_plain (compare x) w h = comparator_plain x w h
lexeme_plain (sign x) w h = literal w (sign_text x) h (sign_plain x)

pub tokens_plain : (ts : List Tok) (bs : List ℕ) → AreTokens ts bs → AllAre is_plain bs
tokens_plain [] bs h = all_so is_layout is_plain layout_plain bs h
tokens_plain (t ∷ ts) bs h =
    let P : ℕ → Type 0 = λ b. is_plain b ≡ true in
    subst (AllAre is_plain) (sym h.3) (all_append P h.0 (h.1 ++ h.2) (all_so is_layout is_plain layout_plain h.0 h.4)
    (all_append P h.1 h.2 (lexeme_plain t h.1 h.5) (tokens_plain ts h.2 h.7)))

pub no_percent : (bs : List ℕ) → AllAre is_plain bs → HasNo percent bs
no_percent [] h = tt
no_percent (b ∷ bs) h = (
  not-true (b == 37) (and_parts (not (b == 37)) (not (b == 46))
      (and_parts (is_text_byte b) _ h.0).1).0,
  no_percent bs h.1,
)

pub no_stop : (bs : List ℕ) → AllAre is_plain bs → HasNo full_stop bs
no_stop [] h = tt
no_stop (b ∷ bs) h = (
  not-true (b == 46) (and_parts (not (b == 37)) (not (b == 46))
      (and_parts (is_text_byte b) _ h.0).1).1,
  no_stop bs h.1,
)

pub all_text : (bs : List ℕ) → AllAre is_plain bs → is_text bs ≡ true
all_text [] h = refl
all_text (b ∷ bs) h = and_from (is_text_byte b) _ (and_parts (is_text_byte b) _ h.0).0 (all_text bs h.1)
