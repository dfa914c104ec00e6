-- A text with a space after each comma is read as the text without is.
use Rattle.std.proofs.Common.{◌≡◌, ℕ, ◌≤◌, List, [], ◌∷◌, ◌++◌, Bool, true, false, cond, Option, Some, refl, sym, ap}
use Rattle.std.proofs.Common.{ap₂, ◌∙◌, append_assoc, append-nil}
use Rattle.json.specs.Json as json
use Rattle.json.specs.Lex.{Lexeme, token, comma, string_token, lex, between, Place, fresh, punctuate}
use Rattle.json.specs.Print.{escape, quoted}
use Rattle.json.specs.Token.{end_array, begin_array, number as number_token, string as string_lexeme}
use Rattle.json.specs.Word.{ends_word}
use Rattle.json.proofs.Printed.Numbers.{lex-number}
use Rattle.json.proofs.Printed.Strings.{content-escape, lex-escape}
use Rattle.serde_json.specs.Data.{Data, null, boolean, number, string, array, object, Items, no_items, item, depth}
use Rattle.serde_json.specs.Read.{max_depth, read}
use Rattle.serde_json.specs.Written.{compact_text, items_text, number_text, comma_if}
use Rattle.chr_json.specs.declared.comma.Comma.{Comma}
use Rattle.chr_json.specs.declared.comma.Comma.TheVariants as kind
use Rattle.chr_json.specs.working.Compact.{comma_text, parted_text, parted_items}
use Rattle.chr_json.proofs.Texts.{element_on}
use Rattle.chr_json.proofs.Reading.{IsPlain, ArePlain, is_number, texts_read, whole}

-- what stands before an element: a comma, where another stands before it
abbrev front : Comma → Bool → List ℕ
front k later = cond later (comma_text k) []

-- a comma of either kind is one lexeme
lex-comma : (k : Comma) (r : List ℕ) → lex between (comma_text k ++ r) ≡ comma ∷ lex between r
unfolding lex
lex-comma kind.Bare r = refl
lex-comma kind.Spaced r = refl

lex-quoted : (s r : List ℕ) → lex between (quoted s ++ r) ≡ token (string_lexeme s) ∷ lex between r
unfolding lex
lex-quoted s r =
    ap (λ l. lex between (34 ∷ l)) (append_assoc (escape s) (34 ∷ []) r)
    ∙ ap₂ (λ o l. token (string_token o) ∷ l) (content-escape s r) (lex-escape s r)

lex-bracket : (r : List ℕ) → lex between (93 ∷ r) ≡ token end_array ∷ lex between r
unfolding lex
lex-bracket r = refl

lex-opening : (r : List ℕ) → lex between (91 ∷ r) ≡ token begin_array ∷ lex between r
unfolding lex
lex-opening r = refl

-- a comma or a bracket ends the word before it
items_end : (k : Comma) (ds : Items) (r : List ℕ)
    → ends_word (parted_items (comma_text k) (comma_text k) ds ++ r) ≡ true
items_end kind.Bare no_items r = refl
items_end kind.Bare (item d ds) r = refl
items_end kind.Spaced no_items r = refl
items_end kind.Spaced (item d ds) r = refl

compact_end : (ds : Items) (r : List ℕ) → ends_word (items_text true ds ++ r) ≡ true
compact_end no_items r = refl
compact_end (item d ds) r = refl

lex-front : (k : Comma) (later : Bool) (r s : List ℕ) → lex between r ≡ lex between s
    → lex between (front k later ++ r) ≡ lex between (comma_if later ++ s)
unfolding lex
lex-front k true r s e = lex-comma k r ∙ ap (λ l. comma ∷ l) e
lex-front k false r s e = e

mutual
  value_same : (k : Comma) (d : Data) (r s : List ℕ) → IsPlain d → ends_word r ≡ true → ends_word s ≡ true
      → lex between r ≡ lex between s
      → lex between (parted_text (comma_text k) d ++ r) ≡ lex between (compact_text d ++ s)
  value_same k null r s h left right e = absurd h
  value_same k (boolean b) r s h left right e = absurd h
  value_same k (number n) r s h left right e =
      let is = is_number n h in
      lex-number (number_text n) r is left
      ∙ ap (λ l. token (number_token (number_text n)) ∷ l) e
      ∙ sym (lex-number (number_text n) s is right)
  value_same k (string t) r s h left right e =
      lex-quoted t r ∙ ap (λ l. token (string_lexeme t) ∷ l) e ∙ sym (lex-quoted t s)
  value_same k (array ds) r s h left right e =
      lex-opening (parted_items (comma_text k) [] ds ++ r)
      ∙ ap (λ l. token begin_array ∷ l) (items_same k false ds r s h e)
      ∙ sym (lex-opening (items_text false ds ++ s))
  value_same k (object ms) r s h left right e = absurd h

  items_same : (k : Comma) (later : Bool) (ds : Items) (r s : List ℕ) → ArePlain ds
      → lex between r ≡ lex between s
      → lex between (parted_items (comma_text k) (front k later) ds ++ r) ≡ lex between (items_text later ds ++ s)
  items_same k later no_items r s h e = lex-bracket r ∙ ap (λ l. token end_array ∷ l) e ∙ sym (lex-bracket s)
  items_same k later (item d ds) r s h e =
      let c = comma_text k in
      let more = parted_items c c ds in
      let others = items_text true ds in
      let value = value_same k d (more ++ r) (others ++ s) h.0 (items_end k ds r) (compact_end ds s)
      (items_same k true ds r s h.1 e) in
      ap (lex between) (element_on (front k later) (parted_text c d) more r)
      ∙ lex-front k later (parted_text c d ++ (more ++ r)) (compact_text d ++ (others ++ s)) value
      ∙ sym (ap (lex between) (element_on (comma_if later) (compact_text d) others s))

-- the value of either text
pub parted_texts_read : (k : Comma) (d : Data) → IsPlain d → depth d ≤ max_depth
    → read (parted_text (comma_text k) d) ≡ Some d
parted_texts_read k d plain shallow =
    let text = parted_text (comma_text k) d in
    let same = ap (lex between) (sym (append-nil text))
    ∙ value_same k d [] [] plain refl refl refl
    ∙ ap (lex between) (append-nil (compact_text d)) in
    ap (λ ls. whole (json.value max_depth (punctuate fresh ls))) same ∙ texts_read d plain shallow
