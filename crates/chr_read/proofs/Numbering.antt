-- The numbers of variables: what is numbered by first occurrence, and which variables occur.
use Rattle.std.proofs.Common.{◌≡◌, ℕ, ◌+◌, ◌<◌, ◌≤◌, List, [], ◌∷◌, ◌++◌, length, Bool, true, false, cond, ◌||◌, ◌&&◌}
use Rattle.std.proofs.Common.{nat_lt, nat_le, nat_eq, Option, Some, None, is_some, unwrap_or, position, refl, sym, ap}
use Rattle.std.proofs.Common.{◌∙◌, subst, append_assoc, append-nil, length-append, arith}
use Rattle.std.proofs.lemmas.Bool.{false≢true, and_from, or_right}
use Rattle.std.proofs.lemmas.Bool.Decides.{nat_tests}
use Rattle.std.proofs.lemmas.List.Folds.{list_any-append}
use Rattle.std.proofs.lemmas.Option.{none-some, same_Some}
use Rattle.std.proofs.lemmas.Slice.Eq.{bytes_eq-Decides}
use Rattle.std.specs.List.{list_any}
use Rattle.std.specs.Str.{bytes_eq}
use Rattle.chr_base.specs.declared.term.Pattern.{Pattern}
use Rattle.chr_base.specs.declared.term.Term as base
use Rattle.chr_base.specs.declared.term.Term.TheVariants.{Variable, Constant}
use Rattle.chr_base.specs.ProgramTests.{Declaration}
use Rattle.chr_base.specs.RuleTests as rules
use Rattle.chr_base.specs.RuleTests.{occurs, terms_of, numbered, is_numbered}
use Rattle.chr_syntax.specs.Clauses.{Term, Atom, variable, number}
use Rattle.chr_read.specs.Faults.{is_anonymous, is_named}
use Rattle.chr_read.specs.working.RuleParts.{stands_in, Names, with_variable}
use Rattle.chr_read.specs.Resolving.{met_at, variable_of, head_terms, after_terms, heads, after_heads}
use Rattle.chr_base.proofs.Declared.{place_within}
use Rattle.chr_base.proofs.Terms.{terms_of-append}
use Rattle.chr_read.proofs.Positions.{position_any}

-- ---- the variables of the heads are numbered

pub met_within : (names : Names) (w : List ℕ) (i : ℕ) → met_at names w ≡ Some i → i < length names
met_within names w i h = by (is_anonymous w) h
  where
    by : (b : Bool) → cond b None (position (bytes_eq w) names) ≡ Some i → i < length names
    by true e = absurd (none-some i e)
    by false e = place_within (bytes_eq w) names i e

-- one step of the numbering, at a variable
one_variable : (names : Names) (w : List ℕ) (rest : List base.Term)
    → numbered (length names) (Variable (variable_of names w) ∷ rest) ≡ numbered (length (with_variable names w)) rest
one_variable names w rest = by (met_at names w) refl
  where
    by : (o : Option ℕ) → met_at names w ≡ o
        → cond (nat_eq (unwrap_or o (length names) + 1) (length names + 1)) (numbered (length names + 1) rest)
        (cond (nat_lt 0 (unwrap_or o (length names) + 1) && nat_le (unwrap_or o (length names) + 1) (length names))
        (numbered (length names) rest) None)
        ≡ numbered (length (cond (is_some o) names (names ++ w ∷ []))) rest
    by None is =
        let e : nat_eq (length names + 1) (length names + 1) ≡ true = grind (arith, nat_tests) in
        ap (λ b. cond b (numbered (length names + 1) rest)
        (cond (nat_lt 0 (length names + 1) && nat_le (length names + 1) (length names))
        (numbered (length names) rest) None)) e
        ∙ ap (λ n. numbered n rest) (sym (length-append names (w ∷ [])))
    by (Some i) is =
        let below = met_within names w i is in
        let e : nat_eq (i + 1) (length names + 1) ≡ false = grind (arith, nat_tests) in
        let g : nat_lt 0 (i + 1) ≡ true = grind (arith, nat_tests) in
        let k : nat_le (i + 1) (length names) ≡ true = grind (arith, nat_tests) in
        let f : (nat_lt 0 (i + 1) && nat_le (i + 1) (length names)) ≡ true = and_from _ _ g k in
        ap (λ b. cond b (numbered (length names + 1) rest)
        (cond (nat_lt 0 (i + 1) && nat_le (i + 1) (length names)) (numbered (length names) rest) None)) e
        ∙ ap (λ b. cond b (numbered (length names) rest) None) f

numbered_terms : (names : Names) (ts : List Term) (rest : List base.Term)
    → numbered (length names) (head_terms names ts ++ rest) ≡ numbered (length (after_terms names ts)) rest
numbered_terms names [] rest = refl
numbered_terms names (variable w ∷ ts) rest = one_variable names w (head_terms (with_variable names w) ts ++ rest)
    ∙ numbered_terms (with_variable names w) ts rest
numbered_terms names (number w ∷ ts) rest = numbered_terms names ts rest

numbered_heads : (ds : List Declaration) (names : Names) (atoms : List Atom) (rest : List base.Term)
    → numbered (length names) (terms_of (heads ds names atoms) ++ rest)
    ≡ numbered (length (after_heads names atoms)) rest
numbered_heads ds names [] rest = refl
numbered_heads ds names (a ∷ atoms) rest =
    ap (numbered (length names)) (append_assoc (head_terms names a.args)
    (terms_of (heads ds (after_terms names a.args) atoms)) rest)
    ∙ numbered_terms names a.args _ ∙ numbered_heads ds (after_terms names a.args) atoms rest

pub numbers : (ds : List Declaration) (kept removed : List Atom)
    → numbered 0 (terms_of (heads ds [] kept ++ heads ds (after_heads [] kept) removed))
    ≡ Some (length (after_heads (after_heads [] kept) removed))
numbers ds kept removed =
    let names = after_heads [] kept in
    ap (numbered 0) (terms_of-append (heads ds [] kept) (heads ds names removed))
    ∙ numbered_heads ds [] kept (terms_of (heads ds names removed))
    ∙ ap (numbered (length names)) (sym (append-nil (terms_of (heads ds names removed))))
    ∙ numbered_heads ds names removed []

-- ---- each number up to the last occurs

pub occurs_terms : (x : ℕ) (ps : List Pattern) → list_any (rules.is_variable x) (terms_of ps) ≡ occurs x ps
occurs_terms x [] = refl
occurs_terms x (p ∷ ps) = list_any-append (rules.is_variable x) p.args.items (terms_of ps)
    ∙ ap (λ b. list_any (rules.is_variable x) p.args.items || b) (occurs_terms x ps)

all_occur : (m n : ℕ) (ts : List base.Term) → numbered m ts ≡ Some n → (x : ℕ) → m < x → x ≤ n
    → list_any (rules.is_variable x) ts ≡ true
all_occur m n [] h x above below = absurd (omega (arith, same_Some _ _ h))
all_occur m n (Constant c ∷ ts) h x above below = all_occur m n ts h x above below
all_occur m n (Variable y ∷ ts) h x above below = first (nat_eq y (m + 1)) refl h
    (λ g later. all_occur (m + 1) n ts g x later below) (λ g. all_occur m n ts g x above below)
  where
    is_next : (b : Bool) → nat_eq x (m + 1) ≡ b → nat_eq y (m + 1) ≡ true
        → (m + 1 < x → list_any (rules.is_variable x) ts ≡ true) → (nat_eq x y || list_any (rules.is_variable x) ts)
        ≡ true
    is_next true is e after =
        let same : nat_eq x y ≡ true = grind (arith, nat_tests) in ap (λ b. b || list_any (rules.is_variable x) ts) same
    is_next false is e after =
        let later : m + 1 < x = grind (arith, nat_tests) in or_right (nat_eq x y) _ (after later)

    old : (b : Bool) → cond b (numbered m ts) None ≡ Some n
        → (numbered m ts ≡ Some n → list_any (rules.is_variable x) ts ≡ true)
        → (nat_eq x y || list_any (rules.is_variable x) ts) ≡ true
    old true h further = or_right (nat_eq x y) _ (further h)
    old false h further = absurd (none-some n h)

    first : (b : Bool) → nat_eq y (m + 1) ≡ b → cond b (numbered (m + 1) ts)
        (cond (nat_lt 0 y && nat_le y m) (numbered m ts) None) ≡ Some n
        → (numbered (m + 1) ts ≡ Some n → m + 1 < x → list_any (rules.is_variable x) ts ≡ true)
        → (numbered m ts ≡ Some n → list_any (rules.is_variable x) ts ≡ true)
        → (nat_eq x y || list_any (rules.is_variable x) ts) ≡ true
    first true e h new further = is_next (nat_eq x (m + 1)) refl e (new h)
    first false e h new further = old (nat_lt 0 y && nat_le y m) h further

pub occurs_in : (ps : List Pattern) (n : ℕ) → numbered 0 (terms_of ps) ≡ Some n → (x : ℕ) → 0 < x → x ≤ n → occurs x ps
    ≡ true
occurs_in ps n h x above below = sym (occurs_terms x ps) ∙ all_occur 0 n (terms_of ps) h x above below

-- ---- a variable that stands in the heads is met

pub itself : (w : List ℕ) → bytes_eq w w ≡ true
itself w = (bytes_eq-Decides w w).1 refl

abbrev pub has : List ℕ → Names → Bool
has w names = list_any (bytes_eq w) names

has_more : (w : List ℕ) (names rest : Names) → has w names ≡ true → has w (names ++ rest) ≡ true
has_more w names rest h = list_any-append (bytes_eq w) names rest ∙ ap (λ b. b || has w rest) h

stays : (w v : List ℕ) (names : Names) → has w names ≡ true → has w (with_variable names v) ≡ true
stays w v names h = by (is_some (met_at names v))
  where
    by : (b : Bool) → has w (cond b names (names ++ v ∷ [])) ≡ true
    by true = h
    by false = has_more w names (v ∷ []) h

met : (w : List ℕ) (names : Names) → is_anonymous w ≡ false → has w (with_variable names w) ≡ true
met w names named = by (is_some (met_at names w)) known
  where
    known : is_some (met_at names w) ≡ has w names
    known = ap (λ b. is_some (cond b None (position (bytes_eq w) names))) named ∙ position_any (bytes_eq w) names

    by : (b : Bool) → b ≡ has w names → has w (cond b names (names ++ w ∷ [])) ≡ true
    by true e = sym e
    by false e = list_any-append (bytes_eq w) names (w ∷ [])
        ∙ or_right (has w names) _ (ap (λ b. b || false) (itself w))

stays_after : (w : List ℕ) (names : Names) (ts : List Term) → has w names ≡ true → has w (after_terms names ts) ≡ true
stays_after w names [] h = h
stays_after w names (variable v ∷ ts) h = stays_after w (with_variable names v) ts (stays w v names h)
stays_after w names (number v ∷ ts) h = stays_after w names ts h

met_after : (w : List ℕ) (names : Names) (ts : List Term) → is_anonymous w ≡ false → list_any (is_named w) ts ≡ true
    → has w (after_terms names ts) ≡ true
met_after w names [] named h = absurd (false≢true h)
met_after w names (number v ∷ ts) named h = met_after w names ts named h
met_after w names (variable v ∷ ts) named h = by (bytes_eq w v) refl h (met_after w (with_variable names v) ts named)
  where
    by : (b : Bool) → bytes_eq w v ≡ b → (b || list_any (is_named w) ts) ≡ true
        → (list_any (is_named w) ts ≡ true → has w (after_terms (with_variable names v) ts) ≡ true)
        → has w (after_terms (with_variable names v) ts) ≡ true
    by true e h further =
        let P : List ℕ → Type 0 = λ u. has w (with_variable names u) ≡ true in
        stays_after w (with_variable names v) ts (subst P ((bytes_eq-Decides w v).0 e) (met w names named))
    by false e h further = further h

pub stays_heads : (w : List ℕ) (names : Names) (atoms : List Atom) → has w names ≡ true
    → has w (after_heads names atoms) ≡ true
stays_heads w names [] h = h
stays_heads w names (a ∷ atoms) h = stays_heads w (after_terms names a.args) atoms (stays_after w names a.args h)

pub met_heads : (w : List ℕ) (names : Names) (atoms : List Atom) → is_anonymous w ≡ false → stands_in w atoms ≡ true
    → has w (after_heads names atoms) ≡ true
met_heads w names [] named h = absurd (false≢true h)
met_heads w names (a ∷ atoms) named h = by (list_any (is_named w) a.args) refl h
    (met_heads w (after_terms names a.args) atoms named)
  where
    by : (b : Bool) → list_any (is_named w) a.args ≡ b → (b || stands_in w atoms) ≡ true
        → (stands_in w atoms ≡ true → has w (after_heads (after_terms names a.args) atoms) ≡ true)
        → has w (after_heads (after_terms names a.args) atoms) ≡ true
    by true e h further = stays_heads w (after_terms names a.args) atoms (met_after w names a.args named e)
    by false e h further = further h

-- what is met has a number up to the last
pub in_range : (w : List ℕ) (names : Names) → is_anonymous w ≡ false → has w names ≡ true → (0 < variable_of names w)
    × (variable_of names w ≤ length names)
in_range w names named h = by (met_at names w) refl known
  where
    known : is_some (met_at names w) ≡ true
    known = ap (λ b. is_some (cond b None (position (bytes_eq w) names))) named ∙ position_any (bytes_eq w) names ∙ h

    by : (o : Option ℕ) → met_at names w ≡ o → is_some o ≡ true → (0 < unwrap_or o (length names) + 1)
        × (unwrap_or o (length names) + 1 ≤ length names)
    by None is e = absurd (false≢true e)
    by (Some i) is e = let below = met_within names w i is in (omega arith, omega (arith, below))
