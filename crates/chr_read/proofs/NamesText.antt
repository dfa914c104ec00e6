-- The names of a clause are words of letters, digits and underscores, and so text.
use Rattle.std.proofs.Common.{◌≡◌, ◌<◌, ℕ, List, [], ◌∷◌, ◌++◌, map, true, not, Option, Some, None, option_to_list}
use Rattle.std.proofs.Common.{refl, sym, ap, subst, arith}
use Rattle.std.proofs.lemmas.Bool.Decides.{nat_tests}
use Rattle.std.proofs.lemmas.Str.{IsUtf8-from_ascii, is_utf8-from_IsUtf8}
use Rattle.std.proofs.lemmas.Str.Ascii.{IsAscii-cons, IsAscii-nil}
use Rattle.std.specs.List.{AllByRecursion, list_all}
use Rattle.std.specs.Str.{is_utf8, IsAscii}
use Rattle.std.proofs.lemmas.Bool.{and_from}
use Rattle.chr_base.specs.Names as base
use Rattle.chr_syntax.specs.declared.token.Sign.TheVariants as s
use Rattle.chr_syntax.specs.Tokens.{Tok, name, variable, number, compare, sign}
use Rattle.chr_base.specs.Names.{is_lower, is_word_byte}
use Rattle.chr_syntax.specs.Clauses.{Atom, Symbol, Comparison, Form, use_module, declare, weight, rule, propagation}
use Rattle.chr_syntax.specs.Grammar.{IsUnreserved, IsSymbol, IsForm, with_commas, spelled_list, spelled_atom}
use Rattle.chr_syntax.specs.Grammar.{spelled_item, spelled_comparison, spelled_heads, spelled_right, spelled_label}
use Rattle.chr_syntax.specs.Grammar.{spelled_symbol, spelled}
use Rattle.chr_syntax.specs.working.Spellings.{spelled_atoms, IsLabel, IsAtom, IsItem, spelled_body}
use Rattle.chr_syntax.specs.Lexemes.{AllAre, IsWord, IsLexeme, AreTokens}
use Rattle.chr_syntax.proofs.Spelled.{all_some}
use Rattle.chr_read.specs.Faults.{present}
use Rattle.chr_read.specs.NamesOfForms.{names_of_atoms, names_in, NamesAreText, NamesAreNames}
use Rattle.chr_syntax.proofs.Cuts.{all_append}
use Rattle.chr_read.proofs.PlainBytes.{to_test}

abbrev pub IsText : List ℕ → Type 0
IsText w = is_utf8 w ≡ true

-- ---- words are text

word_below : (b : ℕ) → is_word_byte b ≡ true → b < 128
word_below b h = grind (arith, nat_tests)

lower_below : (b : ℕ) → is_lower b ≡ true → b < 128
lower_below b h = grind (arith, nat_tests)

words_ascii : (bs : List ℕ) → AllAre is_word_byte bs → IsAscii bs
words_ascii [] h = IsAscii-nil
words_ascii (b ∷ bs) h = IsAscii-cons b bs (word_below b h.0) (words_ascii bs h.1)

pub name_text : (w : List ℕ) → IsWord is_lower w → IsText w
name_text [] h = absurd h
name_text (b ∷ bs) h = is_utf8-from_IsUtf8 (b ∷ bs) (IsUtf8-from_ascii (b ∷ bs)
    (IsAscii-cons b bs (lower_below b h.0) (words_ascii bs h.1)))

-- ---- lists

pub front : {A : Type 0} (P : A → Type 0) (xs ys : List A) → AllByRecursion P (xs ++ ys) → AllByRecursion P xs
front P [] ys h = tt
front P (x ∷ xs) ys h = (h.0, front P xs ys h.1)

pub back : {A : Type 0} (P : A → Type 0) (xs ys : List A) → AllByRecursion P (xs ++ ys) → AllByRecursion P ys
back P [] ys h = h
back P (x ∷ xs) ys h = back P xs ys h.1

-- ---- where each word is P, each name of a form is P

module _ (P : List ℕ → Type 0) (good : (w : List ℕ) → IsWord is_lower w → P w) where
  abbrev IsTextToken : Tok → Type 0
  IsTextToken (name w) = P w
  IsTextToken (variable w) = Unit {0}
  IsTextToken (number w) = Unit {0}
  IsTextToken (compare c) = Unit {0}
  IsTextToken (sign x) = Unit {0}

  abbrev AllText : List Tok → Type 0
  AllText ts = AllByRecursion IsTextToken ts

  token_text : (t : Tok) (w : List ℕ) → IsLexeme t w → IsTextToken t
  token_text (name v) w h = subst P (sym h.0) (good w h.1)
  token_text (variable v) w h = tt
  token_text (number v) w h = tt
  token_text (compare c) w h = tt
  token_text (sign x) w h = tt

  tokens_text : (ts : List Tok) (bs : List ℕ) → AreTokens ts bs → AllText ts
  tokens_text [] bs h = tt
  tokens_text (t ∷ ts) bs h = (token_text t h.1 h.5, tokens_text ts h.2 h.7)

  each_text : (ls : List (List Tok)) → AllText (with_commas ls) → AllByRecursion AllText ls
  each_text [] h = tt
  each_text (x ∷ []) h = (h, tt)
  each_text (x ∷ y ∷ ys) h = (front IsTextToken x _ h, each_text (y ∷ ys) (back IsTextToken x _ h).1)

  -- ---- parts of forms

  atoms_each : (atoms : List Atom) → AllByRecursion AllText (map spelled_atom atoms)
      → AllByRecursion P (names_of_atoms atoms)
  atoms_each [] h = tt
  atoms_each (a ∷ atoms) h = (h.0.0, atoms_each atoms h.1)

  atoms_text : (atoms : List Atom) → AllText (spelled_atoms atoms) → AllByRecursion P (names_of_atoms atoms)
  atoms_text atoms h = atoms_each atoms (each_text (map spelled_atom atoms) h)

  symbols_each : (ss : List Symbol) → AllByRecursion AllText (map spelled_symbol ss)
      → AllByRecursion P (map (λ s. s.name) ss)
  symbols_each [] h = tt
  symbols_each (s ∷ ss) h = (h.0.0, symbols_each ss h.1)

  items_each : (items : List (Option Atom)) → AllByRecursion AllText (map (spelled_item spelled_atom) items)
      → AllByRecursion P (names_of_atoms (present items))
  items_each [] h = tt
  items_each (None ∷ items) h = items_each items h.1
  items_each (Some a ∷ items) h = (h.0.0, items_each items h.1)

  body_text : (items : List (Option Atom)) → AllText (spelled_body items)
      → AllByRecursion P (names_of_atoms (present items))
  body_text items h = items_each items (each_text (map (spelled_item spelled_atom) items) h)

  right_text : (guard : List (Option Comparison)) (body : List (Option Atom)) → AllText (spelled_right guard body)
      → AllByRecursion P (names_of_atoms (present body))
  right_text [] body h = body_text body h
  right_text (g ∷ gs) body h = body_text body (back IsTextToken
      (spelled_list (spelled_item spelled_comparison) (g ∷ gs)) (sign s.Bar ∷ spelled_body body) h).1

  heads_text : (kept removed : List Atom) → AllText (spelled_heads kept removed)
      → AllByRecursion P (names_of_atoms kept) × AllByRecursion P (names_of_atoms removed)
  heads_text [] removed h = (tt, atoms_text removed h)
  heads_text (k ∷ ks) removed h = (
    atoms_text (k ∷ ks) (front IsTextToken (spelled_atoms (k ∷ ks)) (sign s.Backslash ∷ spelled_atoms removed) h),
    atoms_text removed (back IsTextToken (spelled_atoms (k ∷ ks)) (sign s.Backslash ∷ spelled_atoms removed) h).1,
  )

  label_text : (label : Option (List ℕ)) → AllText (spelled_label label) → AllByRecursion P (option_to_list label)
  label_text None h = tt
  label_text (Some w) h = (h.0, tt)

  form_text : (f : Form) → AllText (spelled f) → AllByRecursion P (names_in f)
  form_text use_module h = tt
  form_text (declare ss) h = symbols_each ss (each_text (map spelled_symbol ss) h.1.1)
  form_text (weight d first second) h = (h.1.1.0, tt)
  form_text (rule r) h =
      let rest = back IsTextToken (spelled_label r.label) _ h in
      let hs = heads_text r.kept r.removed (front IsTextToken (spelled_heads r.kept r.removed) _ rest) in
      let after = back IsTextToken (spelled_heads r.kept r.removed) _ rest in
      all_append P (option_to_list r.label) _ (label_text r.label (front IsTextToken (spelled_label r.label) _ h))
      (all_append P (names_of_atoms r.kept) _ hs.0 (all_append P (names_of_atoms r.removed) _ hs.1
      (right_text r.guard r.body after.1)))
  form_text (propagation r) h =
      let rest = back IsTextToken (spelled_label r.label) _ h in
      let hs = atoms_text r.removed (front IsTextToken (spelled_atoms r.removed) _ rest) in
      let after = back IsTextToken (spelled_atoms r.removed) _ rest in
      all_append P (option_to_list r.label) _ (label_text r.label (front IsTextToken (spelled_label r.label) _ h))
      (all_append P (names_of_atoms r.removed) _ hs (right_text r.guard r.body after.1))

pub names_text : NamesAreText
names_text f c h = form_text IsText name_text f (tokens_text IsText name_text (spelled f) c h.0)

-- ---- names

name_word : (w : List ℕ) → IsWord is_lower w → base.is_word w ≡ true
name_word [] h = absurd h
name_word (b ∷ bs) h = and_from _ _ h.0 (to_test is_word_byte bs h.1)

abbrev IsWordName : List ℕ → Type 0
IsWordName w = base.is_word w ≡ true

abbrev AllUnreserved : List (List ℕ) → Type 0
AllUnreserved ws = AllByRecursion IsUnreserved ws

atoms_unreserved : (atoms : List Atom) → AllByRecursion IsAtom atoms → AllUnreserved (names_of_atoms atoms)
atoms_unreserved [] h = tt
atoms_unreserved (a ∷ atoms) h = (h.0, atoms_unreserved atoms h.1)

items_unreserved : (items : List (Option Atom)) → AllByRecursion IsItem items
    → AllUnreserved (names_of_atoms (present items))
items_unreserved [] h = tt
items_unreserved (None ∷ items) h = items_unreserved items h.1
items_unreserved (Some a ∷ items) h = (h.0, items_unreserved items h.1)

symbols_unreserved : (ss : List Symbol) → AllByRecursion IsSymbol ss → AllUnreserved (map (λ s. s.name) ss)
symbols_unreserved [] h = tt
symbols_unreserved (s ∷ ss) h = (h.0.0, symbols_unreserved ss h.1)

label_unreserved : (label : Option (List ℕ)) → IsLabel label → AllUnreserved (option_to_list label)
label_unreserved None h = tt
label_unreserved (Some w) h = (h, tt)

form_unreserved : (f : Form) → IsForm f → AllUnreserved (names_in f)
form_unreserved use_module h = tt
form_unreserved (declare ss) h = symbols_unreserved ss (all_some IsSymbol ss h)
form_unreserved (weight d first second) h = (h.0, tt)
form_unreserved (rule r) h =
    all_append IsUnreserved (option_to_list r.label) _ (label_unreserved r.label h.0)
    (all_append IsUnreserved (names_of_atoms r.kept) _ (atoms_unreserved r.kept h.1)
    (all_append IsUnreserved (names_of_atoms r.removed) _ (atoms_unreserved r.removed (all_some IsAtom r.removed h.2))
    (items_unreserved r.body (all_some IsItem r.body h.3))))
form_unreserved (propagation r) h =
    all_append IsUnreserved (option_to_list r.label) _ (label_unreserved r.label h.0.0)
    (all_append IsUnreserved (names_of_atoms r.removed) _ (atoms_unreserved r.removed (all_some IsAtom r.removed h.0.2))
    (items_unreserved r.body (all_some IsItem r.body h.0.3)))

words_names : (ws : List (List ℕ)) → AllByRecursion IsWordName ws → AllUnreserved ws → list_all base.is_name ws ≡ true
words_names [] h g = refl
words_names (w ∷ ws) h g = and_from _ _ (and_from _ _ h.0 (ap not g.0)) (words_names ws h.1 g.1)

pub names_names : NamesAreNames
names_names f c h = words_names (names_in f) (form_text IsWordName name_word f
    (tokens_text IsWordName name_word (spelled f) c h.0)) (form_unreserved f h.1)
