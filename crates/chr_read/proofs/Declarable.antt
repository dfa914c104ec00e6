-- Symbols that are not declared twice can be declared one after another.
use Rattle.std.proofs.Common.{◌≡◌, ℕ, ◌+◌, ◌-◌, ◌≤◌, List, [], ◌∷◌, ◌++◌, length, Bool, true, false, not, cond, ◌||◌}
use Rattle.std.proofs.Common.{◌&&◌, nat_lt, nat_le, nat_eq, Option, Some, None, is_some, is_none, unwrap_or}
use Rattle.std.proofs.Common.{option_and_then, position, refl, sym, ap, ◌∙◌, length-append, arith}
use Rattle.std.proofs.lemmas.Bool.{false≢true, or_parts, and_from, and_parts}
use Rattle.std.proofs.lemmas.Bool.Decides.{nat_tests}
use Rattle.std.proofs.lemmas.List.Folds.{list_any-append}
use Rattle.std.proofs.lemmas.Option.{none-some, same_Some}
use Rattle.std.proofs.lemmas.Slice.Eq.{bytes_eq-Decides}
use Rattle.std.specs.List.{list_any}
use Rattle.std.specs.Str.{bytes_eq}
use Rattle.chr_base.specs.declared.limits.TheConstants.{MAX_ARITY, MAX_SYMBOLS}
use Rattle.chr_base.specs.ProgramTests.{Declaration, declares}
use Rattle.chr_syntax.specs.Clauses.{Symbol}
use Rattle.chr_read.specs.Numbers.{without_zeros, small, arity_of}
use Rattle.chr_read.specs.working.RuleParts.{place_of, is_declared_already, comes_again}
use Rattle.chr_read.specs.Faults.{is_same_symbol, symbol_over}
use Rattle.chr_read.specs.Reading.{declared_symbol}
use Rattle.chr_read.specs.working.Adding.{can_declare_all}
use Rattle.chr_read.proofs.Positions.{position_any}

-- ---- an arity has one list of digits without leading zeros

abbrev digits_for : ℕ → List ℕ
digits_for n = cond (nat_eq n 0) [] ((48 + n) ∷ [])

small_digits : (ds : List ℕ) (n : ℕ) → small ds ≡ Some n → ds ≡ digits_for n
small_digits [] n h = ap digits_for (same_Some _ _ h)
small_digits (b ∷ c ∷ bs) n h = absurd (none-some n h)
small_digits (b ∷ []) n h = by (nat_le 49 b && nat_le b (48 + MAX_ARITY)) refl h
  where
    by : (t : Bool) → (nat_le 49 b && nat_le b (48 + MAX_ARITY)) ≡ t → cond t (Some (b - 48)) None ≡ Some n → b ∷ []
        ≡ digits_for n
    by false e h = absurd (none-some n h)
    by true e h =
        let is = same_Some _ _ h in
        let low : 49 ≤ b = let p = (and_parts (nat_le 49 b) (nat_le b (48 + MAX_ARITY)) e).0 in
        grind (arith, nat_tests) in
        let more : nat_eq n 0 ≡ false = grind (arith, nat_tests) in
        let back : b ≡ 48 + n = omega (arith, is, low) in
        ap (λ x. x ∷ []) back ∙ sym (ap (λ t. cond t [] ((48 + n) ∷ [])) more)

same_digits : (a b : List ℕ) (n : ℕ) → arity_of a ≡ Some n → arity_of b ≡ Some n → without_zeros a ≡ without_zeros b
same_digits a b n f g = small_digits (without_zeros a) n f ∙ sym (small_digits (without_zeros b) n g)

equal_bytes : (v w : List ℕ) → v ≡ w → bytes_eq v w ≡ true
equal_bytes v w e = (bytes_eq-Decides v w).1 e

-- ---- one more symbol

differs : (s t : Symbol) (n : ℕ) → is_none (arity_of s.arity) ≡ false → arity_of t.arity ≡ Some n → is_same_symbol s t
    ≡ false → declares t.name n (declared_symbol s) ≡ false
differs s t n some is other = by (declares t.name n (declared_symbol s)) refl
  where
    same : (o : Option ℕ) → arity_of s.arity ≡ o → is_none o ≡ false → bytes_eq t.name s.name ≡ true
        → nat_eq n (unwrap_or o 0) ≡ true → is_same_symbol s t ≡ true
    same None e f names arities = absurd (false≢true (sym f))
    same (Some m) e f names arities =
        let is_n : m ≡ n = grind (arith, nat_tests) in
        and_from _ _ (equal_bytes s.name t.name (sym ((bytes_eq-Decides t.name s.name).0 names)))
        (equal_bytes _ _ (same_digits s.arity t.arity n (e ∙ ap Some is_n) is))

    by : (b : Bool) → declares t.name n (declared_symbol s) ≡ b → b ≡ false
    by false e = refl
    by true e =
        let parts = and_parts (bytes_eq t.name s.name) _ e in
        absurd (false≢true (sym other ∙ same (arity_of s.arity) refl some parts.0 parts.1))

known_more : (ds : List Declaration) (s t : Symbol) → is_none (arity_of s.arity) ≡ false → is_same_symbol s t ≡ false
    → is_declared_already ds t ≡ false → is_declared_already (ds ++ declared_symbol s ∷ []) t ≡ false
known_more ds s t some other h = by (arity_of t.arity) refl h
  where
    at : (n : ℕ) → declares t.name n (declared_symbol s) ≡ false → is_some (position (declares t.name n) ds) ≡ false
        → is_some (position (declares t.name n) (ds ++ declared_symbol s ∷ [])) ≡ false
    at n fresh h =
        position_any (declares t.name n) (ds ++ declared_symbol s ∷ []) ∙ list_any-append (declares t.name n) ds
        (declared_symbol s ∷ [])
        ∙ ap (λ b. b || (declares t.name n (declared_symbol s) || false))
        (sym (position_any (declares t.name n) ds) ∙ h)
        ∙ ap (λ b. b || false) fresh

    by : (o : Option ℕ) → arity_of t.arity ≡ o → is_some (option_and_then (place_of ds t.name) o) ≡ false
        → is_some (option_and_then (place_of (ds ++ declared_symbol s ∷ []) t.name) (arity_of t.arity)) ≡ false
    by None is h = ap (λ o. is_some (option_and_then (place_of (ds ++ declared_symbol s ∷ []) t.name) o)) is
    by (Some n) is h =
        ap (λ o. is_some (option_and_then (place_of (ds ++ declared_symbol s ∷ []) t.name) o)) is
        ∙ at n (differs s t n some is other) h

all_known_more : (ds : List Declaration) (s : Symbol) (ts : List Symbol) → is_none (arity_of s.arity) ≡ false
    → list_any (is_same_symbol s) ts ≡ false → list_any (is_declared_already ds) ts ≡ false
    → list_any (is_declared_already (ds ++ declared_symbol s ∷ [])) ts ≡ false
all_known_more ds s [] some other h = refl
all_known_more ds s (t ∷ ts) some other h =
    let n = or_parts (is_same_symbol s t) _ other in
    let m = or_parts (is_declared_already ds t) _ h in
    ap (λ b. b || list_any (is_declared_already (ds ++ declared_symbol s ∷ [])) ts) (known_more ds s t some n.0 m.0)
    ∙ all_known_more ds s ts some n.1 m.1

-- ---- symbols that differ from those seen

seen_differs : (front back : List Symbol) (s t : Symbol) → list_any (λ e. is_same_symbol e t) (front ++ s ∷ back)
    ≡ false → is_same_symbol s t ≡ false
seen_differs [] back s t h = (or_parts _ _ h).0
seen_differs (f ∷ front) back s t h = seen_differs front back s t (or_parts _ _ h).1

none_again : (front back : List Symbol) (s : Symbol) (ts : List Symbol) → comes_again (front ++ s ∷ back) ts ≡ false
    → list_any (is_same_symbol s) ts ≡ false
none_again front back s [] h = refl
none_again front back s (t ∷ ts) h =
    let n = or_parts _ _ h in
    ap (λ b. b || list_any (is_same_symbol s) ts) (seen_differs front back s t n.0)
    ∙ none_again (t ∷ front) back s ts n.1

pub can_all : (ds : List Declaration) (seen ss : List Symbol) → nat_lt MAX_SYMBOLS (length ds + length ss) ≡ false
    → list_any symbol_over ss ≡ false → list_any (is_declared_already ds) ss ≡ false → comes_again seen ss ≡ false
    → can_declare_all ds ss ≡ true
can_all ds seen [] room over known again = refl
can_all ds seen (s ∷ ss) room over known again =
    let o = or_parts (symbol_over s) _ over in
    let k = or_parts (is_declared_already ds s) _ known in
    let g = or_parts (list_any (λ e. is_same_symbol e s) seen) (comes_again (s ∷ seen) ss) again in
    let below : nat_lt (length ds) MAX_SYMBOLS ≡ true = grind (arith, nat_tests) in
    let longer = length-append ds (declared_symbol s ∷ []) in
    let more : nat_lt MAX_SYMBOLS (length (ds ++ declared_symbol s ∷ []) + length ss) ≡ false =
    grind (arith, nat_tests) in
    and_from _ _ (and_from _ _ (and_from _ _ below (ap not o.0)) (ap not k.0))
    (can_all (ds ++ declared_symbol s ∷ []) (s ∷ seen) ss more o.1
    (all_known_more ds s ss (or_parts _ _ o.0).1 (none_again [] seen s ss g.1) k.1) g.1)
