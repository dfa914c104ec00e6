-- The compact text of a value of arrays, texts and whole numbers is read as that value.
use Rattle.std.proofs.Common.{◌≡◌, suc, max, ◌≤◌, ◌<◌, ◌^◌, pos, negsuc, List, [], Option, Some, refl, sym, ap, ◌∙◌}
use Rattle.std.proofs.Common.{append-nil, arith}
use Rattle.std.specs.Prelude.{option_map, option_and_then, ⊤}
use Rattle.json.specs.Json as json
use Rattle.json.specs.Tree as tree
use Rattle.json.specs.Print.{IsNumber}
use Rattle.json.proofs.Printed.Decimals.{IsNumber-decimal, IsNumber-signed_decimal}
use Rattle.json.specs.Lex.{tokens}
use Rattle.json.proofs.Printed.Tokens.{tokens-print}
use Rattle.json.proofs.Printed.Trees.{ArePrintable-json_tokens, value-json_tokens}
use Rattle.json.specs.Token.{Token}
use Rattle.serde_json.specs.Data.{Num, unsigned, negative, float, Data, null, boolean, number, string, array, object}
use Rattle.serde_json.specs.Data.{Items, no_items, item, depth, items_depth}
use Rattle.serde_json.specs.Read.{number_of, of_json, of_items, max_depth, read}
use Rattle.serde_json.specs.Written.{number_text, outline, items_outline, compact_text}
use Rattle.serde_json.proofs.Numbers.{number_of-decimal, number_of-negative}
use Rattle.serde_json.proofs.Texts.{print-outline}

-- a whole number of 64 bits, without a sign or below zero
abbrev pub IsWhole : Num → Type 0
IsWhole (unsigned n) = n < 2 ^ 64
IsWhole (negative (pos n)) = ⊥
IsWhole (negative (negsuc n)) = n < 2 ^ 63
IsWhole (float x) = ⊥

-- whole numbers, texts, and arrays of these
abbrev mutual
  pub IsPlain : Data → Type 0
  IsPlain null = ⊥
  IsPlain (boolean b) = ⊥
  IsPlain (number n) = IsWhole n
  IsPlain (string s) = ⊤
  IsPlain (array ds) = ArePlain ds
  IsPlain (object ms) = ⊥

  pub ArePlain : Items → Type 0
  ArePlain no_items = ⊤
  ArePlain (item d ds) = IsPlain d × ArePlain ds

-- ---- the reader of JSON gives back what was written

number_back : (n : Num) → IsWhole n → number_of (number_text n) ≡ Some n
number_back (unsigned n) h = number_of-decimal n h
number_back (negative (pos n)) h = absurd h
number_back (negative (negsuc n)) h = number_of-negative n h
number_back (float x) h = absurd h

pub is_number : (n : Num) → IsWhole n → IsNumber (number_text n)
is_number (unsigned n) h = IsNumber-decimal n h
is_number (negative (pos n)) h = absurd h
is_number (negative (negsuc n)) h = IsNumber-signed_decimal (negsuc n) h
is_number (float x) h = absurd h

mutual
  value_back : (d : Data) → IsPlain d → of_json (outline d) ≡ Some d
  value_back null h = absurd h
  value_back (boolean b) h = absurd h
  value_back (number n) h = ap (option_map number) (number_back n h)
  value_back (string s) h = refl
  value_back (array ds) h = ap (option_map array) (items_back ds h)
  value_back (object ms) h = absurd h

  items_back : (ds : Items) → ArePlain ds → of_items (items_outline ds) ≡ Some ds
  items_back no_items h = refl
  items_back (item d ds) h = ap (option_and_then (λ e. option_map (item e) (of_items (items_outline ds))))
      (value_back d h.0) ∙ ap (option_map (item d)) (items_back ds h.1)

mutual
  value_numbers : (d : Data) → IsPlain d → tree.HasNumbers (outline d)
  value_numbers null h = absurd h
  value_numbers (boolean b) h = absurd h
  value_numbers (number n) h = is_number n h
  value_numbers (string s) h = tt
  value_numbers (array ds) h = items_numbers ds h
  value_numbers (object ms) h = absurd h

  items_numbers : (ds : Items) → ArePlain ds → tree.ItemsHaveNumbers (items_outline ds)
  items_numbers no_items h = tt
  items_numbers (item d ds) h = (value_numbers d h.0, items_numbers ds h.1)

mutual
  value_depth : (d : Data) → IsPlain d → tree.depth (outline d) ≡ depth d
  value_depth null h = absurd h
  value_depth (boolean b) h = absurd h
  value_depth (number n) h = refl
  value_depth (string s) h = refl
  value_depth (array ds) h = ap suc (items_depth_same ds h)
  value_depth (object ms) h = absurd h

  items_depth_same : (ds : Items) → ArePlain ds → tree.items_depth (items_outline ds) ≡ items_depth ds
  items_depth_same no_items h = refl
  items_depth_same (item d ds) h = λ i. max (value_depth d h.0 i) (items_depth_same ds h.1 i)

-- what the reader makes of a parse
abbrev pub whole : Option (json.Json × List Token) → Option Data
whole o = option_and_then of_json (option_and_then (λ p. json.if_last p.0 p.1) o)

pub texts_read : (d : Data) → IsPlain d → depth d ≤ max_depth → read (compact_text d) ≡ Some d
texts_read d plain shallow =
    let deep : tree.depth (outline d) ≤ max_depth = (let e = value_depth d plain in omega (arith, e, shallow)) in
    let lexed : tokens (compact_text d) ≡ tree.json_tokens (outline d) =
    ap tokens (sym (print-outline d)) ∙ tokens-print (tree.json_tokens (outline d))
    (ArePrintable-json_tokens (outline d) (value_numbers d plain)) in
    ap whole (ap (json.value max_depth) (lexed ∙ sym (append-nil (tree.json_tokens (outline d))))
    ∙ value-json_tokens (outline d) max_depth [] deep) ∙ value_back d plain
