-- The form of a clause, by splitting its tokens at signs and commas, and reading each part whole.
use Rattle.chr_base.specs.Traversals.{each}
use Rattle.std.specs.Prelude.{ℕ, ◌+◌, ◌-◌, length, take, drop, List, [], ◌∷◌, Bool, true, false, not, ◌==◌, ◌&&◌, ◌||◌}
use Rattle.std.specs.Prelude.{if◌then◌else◌, Option, Some, None, option_map, option_and_then, codes}
use Rattle.std.specs.List.{position_or_len, onto_first}
use Rattle.std.specs.Str.{bytes_eq}
use Rattle.chr_syntax.specs.declared.token.Sign.{Sign}
use Rattle.chr_syntax.specs.declared.token.Sign.TheVariants as s
use Rattle.chr_base.specs.Names.{is_reserved}
use Rattle.std.specs.Str.Parse.{starts_with_minus}
use Rattle.chr_syntax.specs.Tokens.{Tok, name, variable, number, compare, sign}
use Rattle.chr_syntax.specs.working.Tokens.{tokens_of}
use Rattle.chr_syntax.specs.Clauses.{Term, Atom, Symbol, Comparison, Rule, Form, use_module, declare, weight, rule}
use Rattle.chr_syntax.specs.Clauses.{propagation}
use Rattle.chr_syntax.specs.Clauses as clauses

-- ---- splitting

abbrev pub is_the : Sign → Sign → Bool
is_the s.Simplify s.Simplify = true
is_the s.Propagate s.Propagate = true
is_the s.At s.At = true
is_the s.Backslash s.Backslash = true
is_the s.Bar s.Bar = true
is_the s.Comma s.Comma = true
is_the s.Open s.Open = true
is_the s.Close s.Close = true
is_the s.Directive s.Directive = true
is_the s.Equals s.Equals = true
is_the s.Slash s.Slash = true
is_the _ _ = false

abbrev pub is_sign : Sign → Tok → Bool
is_sign x (name w) = false
is_sign x (variable w) = false
is_sign x (number w) = false
is_sign x (compare c) = false
is_sign x (sign y) = is_the x y

abbrev pub stays_inside : Bool → Tok → Bool
stays_inside inside t = is_sign s.Open t || (inside && not (is_sign s.Close t))

-- what stands between the commas that no parentheses enclose
abbrev pub items : Bool → List Tok → List (List Tok)
items inside [] = [] ∷ []
items inside (t ∷ ts) =
    if not inside && is_sign s.Comma t then [] ∷ items false ts else onto_first t (items (stays_inside inside t) ts)

-- how many tokens stand before the first comma that no parentheses enclose
abbrev pub item_len : Bool → List Tok → ℕ
item_len inside [] = 0
item_len inside (t ∷ ts) = if not inside && is_sign s.Comma t then 0 else 1 + item_len (stays_inside inside t) ts

-- what f reads between the commas
abbrev pub each_item : {B : Type 0} → (List Tok → Option B) → List Tok → Option (List B)
each_item f ts = each f (items false ts)

abbrev pub sign_place : Sign → List Tok → ℕ
sign_place x ts = position_or_len (is_sign x) ts

-- what stands before the first sign of this kind, and after it
abbrev pub cut_at : Sign → List Tok → Option (List Tok × List Tok)
cut_at x ts =
    if sign_place x ts == length ts then None else Some (take (sign_place x ts) ts, drop (sign_place x ts + 1) ts)

-- ---- atoms

abbrev pub term_of : Tok → Option Term
term_of (name w) = None
term_of (variable w) = Some (clauses.variable w)
term_of (number w) = Some (clauses.number w)
term_of (compare c) = None
term_of (sign x) = None

abbrev pub term_from : List Tok → Option Term
term_from (t ∷ []) = term_of t
term_from _ = None

-- the one token is a closing parenthesis
abbrev pub is_close : List Tok → Bool
is_close (t ∷ []) = is_sign s.Close t
is_close _ = false

-- what stands before a closing parenthesis at the end
abbrev pub before_close : List Tok → Option (List Tok)
before_close ts = if is_close (drop (length ts - 1) ts) then Some (take (length ts - 1) ts) else None

-- what stands between parentheses at the start and at the end
abbrev pub parenthesized : List Tok → Option (List Tok)
parenthesized [] = None
parenthesized (t ∷ ts) = if is_sign s.Open t then before_close ts else None

-- nothing, or terms joined by commas between parentheses
abbrev pub args_from : List Tok → Option (List Term)
args_from [] = Some []
args_from (t ∷ ts) = option_and_then (each_item term_from) (parenthesized (t ∷ ts))

abbrev pub named : List ℕ → Option (List Term) → Option Atom
named w args = if is_reserved w then None else option_map (λ xs. record { name = w; args = xs }) args

abbrev pub atom_from : List Tok → Option Atom
atom_from (name w ∷ ts) = named w (args_from ts)
atom_from _ = None

abbrev pub atoms_from : List Tok → Option (List Atom)
atoms_from ts = each_item atom_from ts

-- ---- guards and bodies

-- the one token is the name w
abbrev pub is_one_word : List ℕ → List Tok → Bool
is_one_word w (name v ∷ []) = bytes_eq v w
is_one_word w _ = false

abbrev pub is_true : List Tok → Bool
is_true ts = is_one_word (codes "true") ts

-- an item: `true`, or what f reads
abbrev pub item_in : {B : Type 0} → (List Tok → Option B) → List Tok → Option (Option B)
item_in f ts = if is_true ts then Some None else option_map Some (f ts)

abbrev pub comparison_from : List Tok → Option Comparison
comparison_from (l ∷ compare c ∷ r ∷ []) =
    option_and_then (λ x. option_map (λ y. record { left = x; comparator = c; right = y }) (term_of r)) (term_of l)
comparison_from _ = None

abbrev pub guard_in : List Tok → Option (List (Option Comparison))
guard_in ts = each_item (item_in comparison_from) ts

abbrev pub body_in : List Tok → Option (List (Option Atom))
body_in ts = each_item (item_in atom_from) ts

-- ---- rules

abbrev pub both : {A B : Type 0} → Option A → Option B → Option (A × B)
both a b = option_and_then (λ x. option_map (λ y. (x, y)) b) a

-- the kept and the removed heads: those before a backslash and those after it; without one all are removed
abbrev pub heads_parted : List Tok → Option (List Tok × List Tok) → Option (List Atom × List Atom)
heads_parted ts None = option_map (λ hs. ([], hs)) (atoms_from ts)
heads_parted ts (Some p) = both (atoms_from p.0) (atoms_from p.1)

abbrev pub heads_in : List Tok → Option (List Atom × List Atom)
heads_in ts = heads_parted ts (cut_at s.Backslash ts)

-- a guard and a body: what stands before a bar and after it; without one all is the body
abbrev pub right_parted : List Tok → Option (List Tok × List Tok)
    → Option (List (Option Comparison) × List (Option Atom))
right_parted ts None = option_map (λ items. ([], items)) (body_in ts)
right_parted ts (Some p) = both (guard_in p.0) (body_in p.1)

abbrev pub right_in : List Tok → Option (List (Option Comparison) × List (Option Atom))
right_in ts = right_parted ts (cut_at s.Bar ts)

abbrev pub rule_of : Option (List ℕ) → List Atom × List Atom → List (Option Comparison) × List (Option Atom) → Rule
rule_of label heads right = record { label = label; kept = heads.0; removed = heads.1; guard = right.0; body = right.1 }

-- a rule whose sign is `<=>`, from what stands before the sign and after it
abbrev pub simplification_in : Option (List ℕ) → List Tok × List Tok → Option Rule
simplification_in label p = option_map (λ q. rule_of label q.0 q.1) (both (heads_in p.0) (right_in p.1))

-- a rule whose sign is `==>`, from what stands before the sign and after it; no backslash may stand there
abbrev pub propagation_in : Option (List ℕ) → List Tok × List Tok → Option Rule
propagation_in label p = option_map (λ q. rule_of label ([], q.0) q.1) (both (atoms_from p.0) (right_in p.1))

abbrev pub rule_parted : Option (List ℕ) → List Tok → Option (List Tok × List Tok) → Option Form
rule_parted label ts None =
    option_and_then (λ p. option_map propagation (propagation_in label p)) (cut_at s.Propagate ts)
rule_parted label ts (Some p) = option_map rule (simplification_in label p)

abbrev pub rule_in : Option (List ℕ) → List Tok → Option Form
rule_in label ts = rule_parted label ts (cut_at s.Simplify ts)

-- one name that is not reserved
abbrev pub name_in : List Tok → Option (List ℕ)
name_in (name w ∷ []) = if is_reserved w then None else Some w
name_in _ = None

abbrev pub label_parted : List Tok → Option (List Tok × List Tok) → Option Form
label_parted ts None = rule_in None ts
label_parted ts (Some p) = option_and_then (λ w. rule_in (Some w) p.1) (name_in p.0)

-- an optional name before `@`, and a rule
abbrev pub labelled_in : List Tok → Option Form
labelled_in ts = label_parted ts (cut_at s.At ts)

-- ---- directives

abbrev pub digits_in : List Tok → Option (List ℕ)
digits_in (number w ∷ []) = Some w
digits_in _ = None

abbrev pub arity_in : List Tok → Option (List ℕ)
arity_in ts = option_and_then (λ w. if starts_with_minus w then None else Some w) (digits_in ts)

-- a symbol, from what stands before the slash and after it
abbrev pub slashed_symbol : List Tok × List Tok → Option Symbol
slashed_symbol p = option_map (λ q. record { name = q.0; arity = q.1 }) (both (name_in p.0) (arity_in p.1))

-- a name, a slash and digits
abbrev pub symbol_in : List Tok → Option Symbol
symbol_in ts = option_and_then slashed_symbol (cut_at s.Slash ts)

abbrev pub symbols_in : List Tok → Option (List Symbol)
symbols_in ts = each_item symbol_in ts

-- one number, or two with a comma between
abbrev pub numbers_in : List Tok → Option (List ℕ × Option (List ℕ))
numbers_in (number v ∷ []) = Some (v, None)
numbers_in (number v ∷ sign s.Comma ∷ number w ∷ []) = Some (v, Some w)
numbers_in _ = None

-- a weight, from what stands before the sign `=` and after it
abbrev pub weight_form : List Tok × List Tok → Option Form
weight_form p = option_map (λ q. weight q.0 q.1.0 q.1.1) (both (symbol_in p.0) (numbers_in p.1))

-- a symbol, `=`, and one number or two
abbrev pub weight_from : List Tok → Option Form
weight_from ts = option_and_then weight_form (cut_at s.Equals ts)

-- the word `library`, and what stands between parentheses after it
abbrev pub library_in : List Tok → Option (List Tok)
library_in (name w ∷ ts) = if bytes_eq w (codes "library") then parenthesized ts else None
library_in _ = None

-- what is loaded, where the tokens are the word `chr`
abbrev pub module_of : List Tok → Option Form
module_of ts = if is_one_word (codes "chr") ts then Some use_module else None

-- `(library(chr))`
abbrev pub module_in : List Tok → Option Form
module_in ts = option_and_then (λ inner. option_and_then module_of (library_in inner)) (parenthesized ts)

-- what follows a directive's first word
abbrev pub directive_of : List ℕ → List Tok → Option Form
directive_of w ts =
    if bytes_eq w (codes "chr_constraint") then option_map declare (symbols_in ts)
    else (if bytes_eq w (codes "chr_weight") then weight_from ts
    else (if bytes_eq w (codes "use_module") then module_in ts else None))

abbrev pub directive_in : List Tok → Option Form
directive_in (name w ∷ ts) = directive_of w ts
directive_in _ = None

-- ---- clauses

-- the form of the tokens: a directive, or a rule
abbrev pub form_in : List Tok → Option Form
form_in [] = None
form_in (t ∷ ts) = if is_sign s.Directive t then directive_in ts else labelled_in (t ∷ ts)

-- the form of a clause, from its bytes without comments
abbrev pub clause_of : List ℕ → Option Form
clause_of bytes = option_and_then form_in (tokens_of bytes)
