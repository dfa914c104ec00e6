-- The tokens of the clauses of a canonical text.
use Rattle.std.proofs.Common.{◌≡◌, ℕ, ◌^◌, ◌<◌, List, [], ◌∷◌, ◌++◌, length, map, Bool, true, false, cond, ◌==◌, Option}
use Rattle.std.proofs.Common.{Some, None, option_map, inl, refl, sym, ap, ◌∙◌, subst, append_assoc, append-nil, arith}
use Rattle.std.specs.Prelude.{codes, decimal}
use Rattle.std.specs.Fmt.{signed_decimal}
use Rattle.std.specs.List.{prefix_len, AllByRecursion}
use Rattle.std.proofs.lemmas.Bool.{or_right, or_left}
use Rattle.chr_base.specs.declared.term.Term as base
use Rattle.chr_base.specs.declared.term.Term.TheVariants.{Variable, Constant}
use Rattle.chr_base.specs.declared.term.Cmp.{Cmp}
use Rattle.chr_base.specs.declared.term.Cmp.TheVariants as cmp
use Rattle.chr_base.specs.declared.term.Comparison as base_comparison
use Rattle.chr_base.specs.declared.term.Pattern.{Pattern}
use Rattle.chr_base.specs.declared.rule.Rule as base_rule
use Rattle.chr_base.specs.Values.{is_value}
use Rattle.chr_base.specs.declared.weight.Weight.{Weight}
use Rattle.chr_base.specs.ProgramTests.{Declaration}
use Rattle.chr_base.specs.Weights.{is_paired, weight_text}
use Rattle.chr_syntax.specs.declared.token.Sign.{Sign}
use Rattle.chr_syntax.specs.declared.token.Sign.TheVariants as s
use Rattle.chr_syntax.specs.Tokens.{Tok, name, variable, number, compare, sign}
use Rattle.chr_base.specs.Names.{is_digit, is_lower, is_upper, is_word_byte}
use Rattle.chr_syntax.specs.working.Tokens.{tokens_of, tokens_after}
use Rattle.chr_syntax.specs.Clauses.{Atom, Comparison, declare, rule}
use Rattle.chr_syntax.specs.Grammar as grammar
use Rattle.chr_syntax.specs.Grammar.{in_parentheses, term_token, spelled_list, spelled_args, spelled_atom}
use Rattle.chr_syntax.specs.Grammar.{spelled_comparison, spelled_item, spelled_heads, spelled_right, spelled_label}
use Rattle.chr_syntax.specs.Grammar.{spelled_symbol, spelled_numbers, spelled}
use Rattle.chr_syntax.specs.working.Spellings.{spelled_atoms, spelled_term, spelled_body}
use Rattle.chr_syntax.specs.Lexemes.{AllAre, IsWord, IsLexeme}
use Rattle.chr_syntax.specs.Printing.{EndsBefore}
use Rattle.chr_syntax.proofs.Printing.{written_read, layout_goes}
use Rattle.chr_base.specs.Texts.{name_at}
use Rattle.chr_read.specs.CanonicalTexts.{more, separated, term_text, args_text, pattern_text, patterns_text, cmp_text}
use Rattle.chr_read.specs.CanonicalTexts.{comparison_text, label_text, kept_text, guard_text, body_text, rule_clause}
use Rattle.chr_read.specs.CanonicalTexts.{symbol_text, weight_clause}
use Rattle.chr_read.proofs.PlainBytes.{from_test}
use Rattle.chr_read.proofs.Decimals.{decimal_digits, decimal_number, signed_number}
use Rattle.chr_read.proofs.WrittenForms.{written_term, written_atom, comparator_of, written_comparison, written_body}
use Rattle.chr_read.proofs.WrittenForms.{written_rule, written_symbol, written_second, written_weight}

-- ---- one text after another

abbrev pub onto : List Tok → Option (List Tok) → Option (List Tok)
onto ts o = option_map (λ us. ts ++ us) o

onto_none : (o : Option (List Tok)) → o ≡ onto [] o
onto_none None = refl
onto_none (Some us) = refl

onto_both : (ts us : List Tok) (o : Option (List Tok)) → onto ts (onto us o) ≡ onto (ts ++ us) o
onto_both ts us None = refl
onto_both ts us (Some vs) = ap Some (sym (append_assoc ts us vs))

-- no letter, digit or underscore comes first
pub record IsParted (rest : List ℕ) : Type 0 where
  pub word : prefix_len is_word_byte rest ≡ 0
  pub digit : prefix_len is_digit rest ≡ 0

-- the bytes are read as these tokens before any rest that is parted from them
abbrev pub Reads : List ℕ → List Tok → Type 0
Reads w ts = (rest : List ℕ) → IsParted rest → tokens_of (w ++ rest) ≡ onto ts (tokens_of rest)

-- the bytes are read as these tokens before any rest, since they end in what parts them from it
abbrev pub AlwaysReads : List ℕ → List Tok → Type 0
AlwaysReads w ts = (rest : List ℕ) → tokens_of (w ++ rest) ≡ onto ts (tokens_of rest)

two : (w v rest : List ℕ) (ts us : List Tok) → tokens_of (w ++ (v ++ rest)) ≡ onto ts (tokens_of (v ++ rest))
    → tokens_of (v ++ rest) ≡ onto us (tokens_of rest)
    → tokens_of ((w ++ v) ++ rest) ≡ onto (ts ++ us) (tokens_of rest)
two w v rest ts us f g = ap tokens_of (append_assoc w v rest) ∙ f ∙ ap (onto ts) g ∙ onto_both ts us (tokens_of rest)

one : (t : Tok) (w rest : List ℕ) → IsLexeme t w → EndsBefore t rest → tokens_of (w ++ rest)
    ≡ onto (t ∷ []) (tokens_of rest)
one t w rest l e = written_read t w rest l e

space : (rest : List ℕ) → tokens_of (codes " " ++ rest) ≡ onto [] (tokens_of rest)
space rest = layout_goes (codes " ") rest (refl, tt) ∙ onto_none (tokens_of rest)

-- a sign between spaces
spaced_sign : (x : Sign) (w rest : List ℕ) → IsLexeme (sign x) w → EndsBefore (sign x) (codes " " ++ rest)
    → tokens_of (codes " " ++ (w ++ (codes " " ++ rest))) ≡ onto (sign x ∷ []) (tokens_of rest)
spaced_sign x w rest l e = layout_goes (codes " ") (w ++ (codes " " ++ rest)) (refl, tt)
    ∙ one (sign x) w (codes " " ++ rest) l e ∙ ap (onto (sign x ∷ [])) (layout_goes (codes " ") rest (refl, tt))

-- ---- words

digits_words : (w : List ℕ) → AllAre is_digit w → AllAre is_word_byte w
digits_words [] h = tt
digits_words (b ∷ bs) h = (
  or_right (is_lower b) _ (or_right (is_upper b) _ (or_left (is_digit b) (b == 95) h.0)),
  digits_words bs h.1,
)

abbrev pub IsWritable : base.Term → Type 0
IsWritable (Variable x) = x < 2 ^ 64
IsWritable (Constant c) = is_value c ≡ true

term_reads : (t : base.Term) → IsWritable t → Reads (term_text t) (term_token (written_term t) ∷ [])
term_reads (Variable x) h rest p = let w = codes "V" ++ decimal x in
    one (variable w) w rest (
      refl,
      (
        refl,
        digits_words (decimal x)
            (from_test is_digit (decimal x) (decimal_digits x h)),
      ),
    ) p.word
term_reads (Constant c) h rest p = let w = signed_decimal c in one (number w) w rest (refl, signed_number c h) p.digit

-- ---- lists

map_twice : {A B C : Type 0} (f : B → C) (g : A → B) (xs : List A) → map f (map g xs) ≡ map (λ x. f (g x)) xs
map_twice f g [] = refl
map_twice f g (x ∷ xs) = ap (λ l. f (g x) ∷ l) (map_twice f g xs)

module _ {A : Type 0} (separator : List ℕ) (comma : (rest : List ℕ) → tokens_of (separator ++ rest)
    ≡ onto (sign s.Comma ∷ []) (tokens_of rest)) (parts : (rest : List ℕ) → IsParted (separator ++ rest))
    (f : A → List ℕ) (g : A → List Tok) (Good : A → Type 0) (reads : (x : A) → Good x → Reads (f x) (g x)) where
  more_tokens : List A → List Tok
  more_tokens [] = []
  more_tokens (x ∷ xs) = sign s.Comma ∷ (g x ++ more_tokens xs)

  spelled_more : (x : A) (xs : List A) → grammar.with_commas (map g (x ∷ xs)) ≡ g x ++ more_tokens xs
  unfolding more_tokens
  spelled_more x [] = sym (append-nil (g x))
  spelled_more x (y ∷ ys) = ap (λ l. g x ++ (sign s.Comma ∷ l)) (spelled_more y ys)

  more_parted : (xs : List A) (rest : List ℕ) → IsParted rest → IsParted (more separator f xs ++ rest)
  more_parted [] rest p = p
  more_parted (x ∷ xs) rest p = subst IsParted (sym (append_assoc separator (f x ++ more separator f xs) rest))
      (parts ((f x ++ more separator f xs) ++ rest))

  more_reads : (xs : List A) → AllByRecursion Good xs → Reads (more separator f xs) (more_tokens xs)
  unfolding more_tokens
  more_reads [] h rest p = onto_none (tokens_of rest)
  more_reads (x ∷ xs) h rest p =
      two separator (f x ++ more separator f xs) rest (sign s.Comma ∷ []) (g x ++ more_tokens xs)
      (comma ((f x ++ more separator f xs) ++ rest))
      (two (f x) (more separator f xs) rest (g x) (more_tokens xs)
      (reads x h.0 (more separator f xs ++ rest) (more_parted xs rest p)) (more_reads xs h.1 rest p))

  pub list_reads : (x : A) (xs : List A) → AllByRecursion Good (x ∷ xs) → Reads (separated separator f (x ∷ xs))
      (grammar.with_commas (map g (x ∷ xs)))
  list_reads x xs h rest p =
      two (f x) (more separator f xs) rest (g x) (more_tokens xs)
      (reads x h.0 (more separator f xs ++ rest) (more_parted xs rest p)) (more_reads xs h.1 rest p)
      ∙ ap (λ ts. onto ts (tokens_of rest)) (sym (spelled_more x xs))

comma_reads : (rest : List ℕ) → tokens_of (codes "," ++ rest) ≡ onto (sign s.Comma ∷ []) (tokens_of rest)
comma_reads rest = one (sign s.Comma) (codes ",") rest refl tt

comma_parts : (rest : List ℕ) → IsParted (codes "," ++ rest)
comma_parts rest = record { word = refl; digit = refl }

comma_space_reads : (rest : List ℕ) → tokens_of (codes ", " ++ rest) ≡ onto (sign s.Comma ∷ []) (tokens_of rest)
comma_space_reads rest = one (sign s.Comma) (codes ",") (codes " " ++ rest) refl tt
    ∙ ap (onto (sign s.Comma ∷ [])) (layout_goes (codes " ") rest (refl, tt))

comma_space_parts : (rest : List ℕ) → IsParted (codes ", " ++ rest)
comma_space_parts rest = record { word = refl; digit = refl }

-- ---- atoms

args_reads : (ts : List base.Term) → AllByRecursion IsWritable ts
    → Reads (args_text ts) (spelled_args (map written_term ts))
args_reads [] h rest p = onto_none (tokens_of rest)
args_reads (t ∷ ts) h rest p =
    let inner = spelled_list spelled_term (map written_term (t ∷ ts)) in
    let list = separated (codes ",") term_text (t ∷ ts) in
    let same = map_twice spelled_term written_term (t ∷ ts) in
    two (codes "(") (list ++ codes ")") rest (sign s.Open ∷ []) (inner ++ sign s.Close ∷ [])
    (one (sign s.Open) (codes "(") ((list ++ codes ")") ++ rest) refl tt)
    (two list (codes ")") rest inner (sign s.Close ∷ [])
    (list_reads (codes ",") comma_reads comma_parts term_text (λ t. term_token (written_term t) ∷ []) IsWritable
    term_reads t ts h (codes ")" ++ rest) record { word = refl; digit = refl }
    ∙ ap (λ l. onto (grammar.with_commas l) (tokens_of (codes ")" ++ rest))) (sym same))
    (one (sign s.Close) (codes ")") rest refl tt))

args_parted : (ts : List base.Term) (rest : List ℕ) → IsParted rest → IsParted (args_text ts ++ rest)
args_parted [] rest p = p
args_parted (t ∷ ts) rest p = record { word = refl; digit = refl }

pub record IsWritableAtom (ds : List Declaration) (p : Pattern) : Type 0 where
  pub word : IsWord is_lower (name_at ds p.symbol.0)
  pub args : AllByRecursion IsWritable p.args.items

atom_reads : (ds : List Declaration) (a : Pattern) → IsWritableAtom ds a
    → Reads (pattern_text ds a) (spelled_atom (written_atom ds a))
atom_reads ds a h rest p =
    let w = name_at ds a.symbol.0 in
    let parted = args_parted a.args.items rest p in
    two w (args_text a.args.items) rest (name w ∷ []) (spelled_args (map written_term a.args.items))
    (one (name w) w (args_text a.args.items ++ rest) (refl, h.word) parted.word)
    (args_reads a.args.items h.args rest p)

atoms_reads : (ds : List Declaration) (a : Pattern) (as' : List Pattern) → AllByRecursion (IsWritableAtom ds) (a ∷ as')
    → Reads (patterns_text ds (a ∷ as')) (spelled_atoms (map (written_atom ds) (a ∷ as')))
atoms_reads ds a as' h rest p =
    list_reads (codes ", ") comma_space_reads comma_space_parts (pattern_text ds)
    (λ a. spelled_atom (written_atom ds a)) (IsWritableAtom ds) (atom_reads ds) a as' h rest p
    ∙ ap (λ l. onto (grammar.with_commas l) (tokens_of rest)) (sym (map_twice spelled_atom (written_atom ds) (a ∷ as')))

-- ---- comparisons

pub record IsWritableComparison (c : base_comparison.Comparison) : Type 0 where
  pub left : IsWritable c.left
  pub right : IsWritable c.right

cmp_reads : (x : Cmp) (rest : List ℕ) → tokens_of (cmp_text x ++ (codes " " ++ rest))
    ≡ onto (compare (comparator_of x) ∷ []) (tokens_of (codes " " ++ rest))
cmp_reads cmp.Less rest = one (compare (comparator_of cmp.Less)) (codes "<") (codes " " ++ rest) refl refl
cmp_reads cmp.AtMost rest = one (compare (comparator_of cmp.AtMost)) (codes "=<") (codes " " ++ rest) refl refl
cmp_reads cmp.Greater rest = one (compare (comparator_of cmp.Greater)) (codes ">") (codes " " ++ rest) refl refl
cmp_reads cmp.AtLeast rest = one (compare (comparator_of cmp.AtLeast)) (codes ">=") (codes " " ++ rest) refl refl
cmp_reads cmp.Equal rest = one (compare (comparator_of cmp.Equal)) (codes "=:=") (codes " " ++ rest) (inl refl) refl
cmp_reads cmp.NotEqual rest = one (compare (comparator_of cmp.NotEqual)) (codes "=\\=") (codes " " ++ rest)
    (inl refl) refl

space_parts : (rest : List ℕ) → IsParted (codes " " ++ rest)
space_parts rest = record { word = refl; digit = refl }

comparison_reads : (c : base_comparison.Comparison) → IsWritableComparison c
    → Reads (comparison_text c) (spelled_comparison (written_comparison c))
comparison_reads c h rest p =
    let l = term_text c.left in let r = term_text c.right in let m = cmp_text c.cmp in
    let tail = codes " " ++ r in
    two l (codes " " ++ (m ++ tail)) rest (term_token (written_term c.left) ∷ [])
    (compare (comparator_of c.cmp) ∷ term_token (written_term c.right) ∷ [])
    (term_reads c.left h.left ((codes " " ++ (m ++ tail)) ++ rest) (space_parts ((m ++ tail) ++ rest)))
    (two (codes " ") (m ++ tail) rest [] (compare (comparator_of c.cmp) ∷ term_token (written_term c.right) ∷ [])
    (space ((m ++ tail) ++ rest))
    (two m tail rest (compare (comparator_of c.cmp) ∷ []) (term_token (written_term c.right) ∷ [])
    (cmp_reads c.cmp (r ++ rest))
    (two (codes " ") r rest [] (term_token (written_term c.right) ∷ []) (space (r ++ rest))
    (term_reads c.right h.right rest p))))

-- ---- rules

label_reads : (o : Option (List ℕ)) → ((w : List ℕ) → o ≡ Some w → IsWord is_lower w)
    → AlwaysReads (label_text o) (spelled_label o)
label_reads None h rest = onto_none (tokens_of rest)
label_reads (Some w) h rest =
    two w (codes " @ ") rest (name w ∷ []) (sign s.At ∷ []) (one (name w) w (codes " @ " ++ rest) (refl, h w refl) refl)
    (spaced_sign s.At (codes "@") rest refl tt)

kept_tokens : List Atom → List Tok
kept_tokens [] = []
kept_tokens (a ∷ as') = spelled_atoms (a ∷ as') ++ sign s.Backslash ∷ []

kept_reads : (ds : List Declaration) (ps : List Pattern) → AllByRecursion (IsWritableAtom ds) ps
    → AlwaysReads (kept_text ds ps) (kept_tokens (map (written_atom ds) ps))
unfolding kept_tokens
kept_reads ds [] h rest = onto_none (tokens_of rest)
kept_reads ds (a ∷ as') h rest =
    two (patterns_text ds (a ∷ as')) (codes " \\ ") rest (spelled_atoms (map (written_atom ds) (a ∷ as')))
    (sign s.Backslash ∷ []) (atoms_reads ds a as' h (codes " \\ " ++ rest) record { word = refl; digit = refl })
    (spaced_sign s.Backslash (codes "\\") rest refl refl)

heads_are : (kept removed : List Atom) → kept_tokens kept ++ spelled_atoms removed ≡ spelled_heads kept removed
unfolding kept_tokens
heads_are [] removed = refl
heads_are (k ∷ ks) removed = append_assoc (spelled_atoms (k ∷ ks)) (sign s.Backslash ∷ []) (spelled_atoms removed)

guard_tokens : List (Option Comparison) → List Tok
guard_tokens [] = []
guard_tokens (g ∷ gs) = spelled_list (spelled_item spelled_comparison) (g ∷ gs) ++ sign s.Bar ∷ []

guard_reads : (cs : List base_comparison.Comparison) → AllByRecursion IsWritableComparison cs
    → AlwaysReads (guard_text cs) (guard_tokens (map (λ c. Some (written_comparison c)) cs))
unfolding guard_tokens
guard_reads [] h rest = onto_none (tokens_of rest)
guard_reads (c ∷ cs) h rest =
    let list = separated (codes ", ") comparison_text (c ∷ cs) in
    let items = map (λ c. Some (written_comparison c)) (c ∷ cs) in
    two list (codes " | ") rest (spelled_list (spelled_item spelled_comparison) items) (sign s.Bar ∷ [])
    (list_reads (codes ", ") comma_space_reads comma_space_parts comparison_text
    (λ c. spelled_comparison (written_comparison c)) IsWritableComparison comparison_reads c cs h
    (codes " | " ++ rest) record { word = refl; digit = refl }
    ∙ ap (λ l. onto (grammar.with_commas l) (tokens_of (codes " | " ++ rest)))
    (sym (map_twice (spelled_item spelled_comparison) (λ c. Some (written_comparison c)) (c ∷ cs))))
    (spaced_sign s.Bar (codes "|") rest refl tt)

right_is : (guard : List (Option Comparison)) (body : List (Option Atom)) → guard_tokens guard ++ spelled_body body
    ≡ spelled_right guard body
unfolding guard_tokens
right_is [] body = refl
right_is (g ∷ gs) body = append_assoc (spelled_list (spelled_item spelled_comparison) (g ∷ gs)) (sign s.Bar ∷ [])
    (spelled_body body)

body_reads : (ds : List Declaration) (ps : List Pattern) → AllByRecursion (IsWritableAtom ds) ps
    → Reads (body_text ds ps) (spelled_body (written_body ds ps))
body_reads ds [] h rest p = one (name (codes "true")) (codes "true") rest (refl, (refl, (refl, (refl, (refl, tt)))))
    p.word
body_reads ds (a ∷ as') h rest p =
    list_reads (codes ", ") comma_space_reads comma_space_parts (pattern_text ds)
    (λ a. spelled_atom (written_atom ds a)) (IsWritableAtom ds) (atom_reads ds) a as' h rest p
    ∙ ap (λ l. onto (grammar.with_commas l) (tokens_of rest))
    (sym (map_twice (spelled_item spelled_atom) (λ a. Some (written_atom ds a)) (a ∷ as')))

pub record IsWritableRule (ds : List Declaration) (r : base_rule.Rule) : Type 0 where
  pub label : (w : List ℕ) → option_map (λ n. n.bytes) r.name ≡ Some w → IsWord is_lower w
  pub kept : AllByRecursion (IsWritableAtom ds) r.kept.items
  pub some : 0 < length r.removed.items
  pub removed : AllByRecursion (IsWritableAtom ds) r.removed.items
  pub guard : AllByRecursion IsWritableComparison r.guard.items
  pub body : AllByRecursion (IsWritableAtom ds) r.body.items

removed_reads : (ds : List Declaration) (ps : List Pattern) → 0 < length ps → AllByRecursion (IsWritableAtom ds) ps
    → Reads (patterns_text ds ps) (spelled_atoms (map (written_atom ds) ps))
removed_reads ds [] l h = absurd (omega arith)
removed_reads ds (a ∷ as') l h = atoms_reads ds a as' h

simplify_reads : (rest : List ℕ) → tokens_of (codes " <=> " ++ rest) ≡ onto (sign s.Simplify ∷ []) (tokens_of rest)
simplify_reads rest = spaced_sign s.Simplify (codes "<=>") rest refl tt

rule_reads : (ds : List Declaration) (r : base_rule.Rule) → IsWritableRule ds r
    → Reads (rule_clause ds r) (spelled (rule (written_rule ds r)))
rule_reads ds r h rest p =
    let w = written_rule ds r in
    let label = label_text (option_map (λ n. n.bytes) r.name) in
    let kept = kept_text ds r.kept.items in
    let removed = patterns_text ds r.removed.items in
    let guard = guard_text r.guard.items in
    let body = body_text ds r.body.items in
    let after = codes " <=> " ++ (guard ++ body) in
    two label (kept ++ (removed ++ after)) rest (spelled_label w.label)
    (kept_tokens w.kept ++ (spelled_atoms w.removed
    ++ (sign s.Simplify ∷ (guard_tokens w.guard ++ spelled_body w.body))))
    (label_reads (option_map (λ n. n.bytes) r.name) h.label ((kept ++ (removed ++ after)) ++ rest))
    (two kept (removed ++ after) rest (kept_tokens w.kept)
    (spelled_atoms w.removed ++ (sign s.Simplify ∷ (guard_tokens w.guard ++ spelled_body w.body)))
    (kept_reads ds r.kept.items h.kept ((removed ++ after) ++ rest))
    (two removed after rest (spelled_atoms w.removed) (sign s.Simplify ∷ (guard_tokens w.guard ++ spelled_body w.body))
    (removed_reads ds r.removed.items h.some h.removed (after ++ rest) record { word = refl; digit = refl })
    (two (codes " <=> ") (guard ++ body) rest (sign s.Simplify ∷ []) (guard_tokens w.guard ++ spelled_body w.body)
    (simplify_reads ((guard ++ body) ++ rest))
    (two guard body rest (guard_tokens w.guard) (spelled_body w.body) (guard_reads r.guard.items h.guard (body ++ rest))
    (body_reads ds r.body.items h.body rest p)))))
    ∙ ap (λ ts. onto (spelled_label w.label ++ ts) (tokens_of rest))
    (sym (append_assoc (kept_tokens w.kept) (spelled_atoms w.removed)
    (sign s.Simplify ∷ (guard_tokens w.guard ++ spelled_body w.body)))
    ∙ (λ i. heads_are w.kept w.removed i ++ (sign s.Simplify ∷ right_is w.guard w.body i)))

-- ---- declarations

pub record IsWritableSymbol (d : Declaration) : Type 0 where
  pub word : IsWord is_lower d.name
  pub arity : d.arity < 2 ^ 64

symbol_reads : (d : Declaration) → IsWritableSymbol d → Reads (symbol_text d) (spelled_symbol (written_symbol d))
symbol_reads d h rest p =
    two d.name (codes "/" ++ decimal d.arity) rest (name d.name ∷ []) (sign s.Slash ∷ number (decimal d.arity) ∷ [])
    (one (name d.name) d.name ((codes "/" ++ decimal d.arity) ++ rest) (refl, h.word) refl)
    (two (codes "/") (decimal d.arity) rest (sign s.Slash ∷ []) (number (decimal d.arity) ∷ [])
    (one (sign s.Slash) (codes "/") (decimal d.arity ++ rest) refl tt)
    (one (number (decimal d.arity)) (decimal d.arity) rest (refl, decimal_number d.arity h.arity) p.digit))

-- `:-` and a word, each with a space behind it
directive_reads : (b : ℕ) (w : List ℕ) → is_lower b ≡ true → AllAre is_word_byte w
    → AlwaysReads (codes ":- " ++ ((b ∷ w) ++ codes " ")) (sign s.Directive ∷ name (b ∷ w) ∷ [])
directive_reads b w l h rest =
    two (codes ":-") (codes " " ++ ((b ∷ w) ++ codes " ")) rest (sign s.Directive ∷ []) (name (b ∷ w) ∷ [])
    (one (sign s.Directive) (codes ":-") ((codes " " ++ ((b ∷ w) ++ codes " ")) ++ rest) refl tt)
    (two (codes " ") ((b ∷ w) ++ codes " ") rest [] (name (b ∷ w) ∷ []) (space (((b ∷ w) ++ codes " ") ++ rest))
    (two (b ∷ w) (codes " ") rest (name (b ∷ w) ∷ []) []
    (one (name (b ∷ w)) (b ∷ w) (codes " " ++ rest) (refl, (l, h)) refl) (space rest)))

declaration_reads : (d : Declaration) (ds : List Declaration) → AllByRecursion IsWritableSymbol (d ∷ ds)
    → Reads (codes ":- chr_constraint " ++ separated (codes ", ") symbol_text (d ∷ ds))
    (spelled (declare (map written_symbol (d ∷ ds))))
declaration_reads d ds h rest p =
    let list = separated (codes ", ") symbol_text (d ∷ ds) in
    two (codes ":- chr_constraint ") list rest (sign s.Directive ∷ name (codes "chr_constraint") ∷ [])
    (spelled_list spelled_symbol (map written_symbol (d ∷ ds)))
    (directive_reads 99 (codes "hr_constraint") refl (from_test is_word_byte (codes "hr_constraint") refl)
    (list ++ rest))
    (list_reads (codes ", ") comma_space_reads comma_space_parts symbol_text (λ d. spelled_symbol (written_symbol d))
    IsWritableSymbol symbol_reads d ds h rest p
    ∙ ap (λ l. onto (grammar.with_commas l) (tokens_of rest)) (sym (map_twice spelled_symbol written_symbol (d ∷ ds))))

-- numbers of a weight that can be written
pub record IsWritableWeight (w : Weight) : Type 0 where
  pub first : w.first < 2 ^ 64
  pub second : w.second < 2 ^ 64

numbers_read : (w : Weight) → IsWritableWeight w → Reads (weight_text (is_paired w) w)
    (spelled_numbers (decimal w.first) (written_second w))
numbers_read w h = by (is_paired w)
  where
    last : (n : ℕ) → n < 2 ^ 64 → Reads (decimal n) (number (decimal n) ∷ [])
    last n l rest p = one (number (decimal n)) (decimal n) rest (refl, decimal_number n l) p.digit

    by : (t : Bool) → Reads (weight_text t w) (spelled_numbers (decimal w.first)
        (cond t (Some (decimal w.second)) None))
    by false rest p = last w.first h.first rest p
    by true rest p =
        let first = decimal w.first in let second = decimal w.second in
        two (first ++ codes ",") second rest (number first ∷ sign s.Comma ∷ []) (number second ∷ [])
        (two first (codes ",") (second ++ rest) (number first ∷ []) (sign s.Comma ∷ [])
        (last w.first h.first (codes "," ++ (second ++ rest)) record { word = refl; digit = refl })
        (comma_reads (second ++ rest)))
        (last w.second h.second rest p)

weight_reads : (d : Declaration) → IsWritableSymbol d → IsWritableWeight d.weight
    → Reads (weight_clause d) (spelled (written_weight d))
weight_reads d h l rest p =
    let symbol = symbol_text d in let value = weight_text (is_paired d.weight) d.weight in let after =
    codes " = " ++ value in
    let numbers = spelled_numbers (decimal d.weight.first) (written_second d.weight) in
    two (codes ":- chr_weight ") (symbol ++ after) rest (sign s.Directive ∷ name (codes "chr_weight") ∷ [])
    (spelled_symbol (written_symbol d) ++ (sign s.Equals ∷ numbers))
    (directive_reads 99 (codes "hr_weight") refl (from_test is_word_byte (codes "hr_weight") refl)
    ((symbol ++ after) ++ rest))
    (two symbol after rest (spelled_symbol (written_symbol d)) (sign s.Equals ∷ numbers)
    (symbol_reads d h (after ++ rest) record { word = refl; digit = refl })
    (two (codes " = ") value rest (sign s.Equals ∷ []) numbers
    (spaced_sign s.Equals (codes "=") (value ++ rest) refl refl) (numbers_read d.weight l rest p)))

-- ---- whole clauses

no_bytes : tokens_of [] ≡ Some []
unfolding tokens_after
no_bytes = refl

whole_reads : (c : List ℕ) (ts : List Tok) → Reads c ts → tokens_of c ≡ Some ts
whole_reads c ts h =
    ap tokens_of (sym (append-nil c)) ∙ h [] record { word = refl; digit = refl } ∙ ap (onto ts) no_bytes
    ∙ ap Some (append-nil ts)

pub rule_tokens : (ds : List Declaration) (r : base_rule.Rule) → IsWritableRule ds r → tokens_of (rule_clause ds r)
    ≡ Some (spelled (rule (written_rule ds r)))
rule_tokens ds r h = whole_reads (rule_clause ds r) (spelled (rule (written_rule ds r))) (rule_reads ds r h)

pub declaration_tokens : (d : Declaration) (ds : List Declaration) → AllByRecursion IsWritableSymbol (d ∷ ds)
    → tokens_of (codes ":- chr_constraint " ++ separated (codes ", ") symbol_text (d ∷ ds))
    ≡ Some (spelled (declare (map written_symbol (d ∷ ds))))
declaration_tokens d ds h = whole_reads _ (spelled (declare (map written_symbol (d ∷ ds)))) (declaration_reads d ds h)

pub weight_tokens : (d : Declaration) → IsWritableSymbol d → IsWritableWeight d.weight → tokens_of (weight_clause d)
    ≡ Some (spelled (written_weight d))
weight_tokens d h l = whole_reads (weight_clause d) (spelled (written_weight d)) (weight_reads d h l)
