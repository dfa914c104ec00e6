-- One entry of a matching: when it may stand behind others.
use Rattle.std.specs.Prelude.{◌≡◌, ℕ, zero, suc, ◌+◌, ◌<◌, true, false, not, ◌&&◌, ◌||◌, nat_eq, List, [], ◌∷◌, ◌++◌}
use Rattle.std.specs.Prelude.{length, get_or, Some, slice_get}
use Rattle.std.proofs.Common.{refl, sym, ap, ◌∙◌, arith, eqb-true, eq-eqb}
use Rattle.std.proofs.lemmas.Bool.Decides.{nat_tests}
use Rattle.std.proofs.lemmas.List.Folds.{list_any-append}
use Rattle.std.proofs.lemmas.Option.{slice_get-get_or, get_or_from_slice_get, slice_get_within}
use Rattle.std.proofs.lemmas.Bool.{and_parts, not-true, or_parts}
use Rattle.chr_base.specs.declared.term.Pattern.{Pattern}
use Rattle.chr_base.specs.Rules.{no_pattern}
use Rattle.chr_confluence.specs.Matchings.{names, IsInjective}
use Rattle.chr_confluence.specs.Overlaps.{SameSymbols}
use Rattle.chr_overlaps.specs.working.Listing.{has_same_symbol, may_follow}

-- the entry is 0, or a place that m does not name
abbrev pub IsNew : List ℕ → ℕ → Type 0
IsNew m zero = Unit {0}
IsNew m (suc k) = names m (suc k) ≡ false

-- the entry is 0, or a place of qs with the symbol of p
abbrev pub HasSymbol : List Pattern → Pattern → ℕ → Type 0
HasSymbol qs p zero = Unit {0}
HasSymbol qs p (suc k) = (q : Pattern) × (slice_get qs k ≡ Some q) × (p.symbol.0 ≡ q.symbol.0)
    × (length p.args.items ≡ length q.args.items)

pub symbols_more : (qs : List Pattern) (p : Pattern) (ps : List Pattern) (e : ℕ) (t : List ℕ) → HasSymbol qs p e
    → SameSymbols qs t ps → SameSymbols qs (e ∷ t) (p ∷ ps)
symbols_more qs p ps zero t h g = g
symbols_more qs p ps (suc k) t h g = (h, g)

pub symbols_first : (qs : List Pattern) (p : Pattern) (ps : List Pattern) (e : ℕ) (t : List ℕ)
    → SameSymbols qs (e ∷ t) (p ∷ ps) → HasSymbol qs p e × SameSymbols qs t ps
symbols_first qs p ps zero t h = (tt, h)
symbols_first qs p ps (suc k) t h = (h.0, h.1)

pub symbol_within : (qs : List Pattern) (p : Pattern) (e : ℕ) → HasSymbol qs p e → e < length qs + 1
symbol_within qs p zero h = omega arith
symbol_within qs p (suc k) h = let l = slice_get_within qs k h.0 h.1 in omega (arith, l)

-- what the test of an entry says
pub follows_means : (qs : List Pattern) (m : List ℕ) (p : Pattern) (e : ℕ) → e < length qs + 1 → may_follow qs m p e
    ≡ true → IsNew m e × HasSymbol qs p e
follows_means qs m p zero l h = (tt, tt)
follows_means qs m p (suc k) l h =
    let q : Pattern = get_or qs k no_pattern in
    let parts = and_parts (not (names m (suc k))) (has_same_symbol p q) h in
    let same = and_parts (nat_eq p.symbol.0 q.symbol.0)
    (nat_eq (length p.args.items) (length q.args.items)) parts.1 in (
      not-true (names m (suc k)) parts.0,
      (
        q,
        slice_get-get_or qs k no_pattern (omega arith),
        eqb-true p.symbol.0 q.symbol.0 same.0,
        eqb-true (length p.args.items) (length q.args.items) same.1,
      ),
    )

pub means_follows : (qs : List Pattern) (m : List ℕ) (p : Pattern) (e : ℕ) → IsNew m e → HasSymbol qs p e
    → may_follow qs m p e ≡ true
means_follows qs m p zero n h = refl
means_follows qs m p (suc k) n h =
    let q : Pattern = h.0 in
    let at : get_or qs k no_pattern ≡ q = get_or_from_slice_get qs k q no_pattern h.1 in
    let s : nat_eq p.symbol.0 q.symbol.0 ≡ true = eq-eqb p.symbol.0 q.symbol.0 h.2 in
    let a : nat_eq (length p.args.items) (length q.args.items) ≡ true =
    eq-eqb (length p.args.items) (length q.args.items) h.3 in
    ap (λ b. not b && has_same_symbol p (get_or qs k no_pattern)) n ∙ ap (λ (x : Pattern). has_same_symbol p x) at
    ∙ ap (λ b. b && nat_eq (length p.args.items) (length q.args.items)) s ∙ a

-- two different places
other_way : (k l : ℕ) → nat_eq k l ≡ false → nat_eq l k ≡ false
other_way k l h = grind (arith, nat_tests)

zero_other : (k : ℕ) → nat_eq (suc k) 0 ≡ false
zero_other k = grind (arith, nat_tests)

names_more : (m : List ℕ) (p e : ℕ) → names m p ≡ false → nat_eq p e ≡ false → names (m ++ e ∷ []) p ≡ false
names_more m p e h g = list_any-append (nat_eq p) m (e ∷ []) ∙ ap (λ b. b || (nat_eq p e || false)) h
    ∙ ap (λ b. b || false) g

names_less : (m t : List ℕ) (p e : ℕ) → names (m ++ e ∷ t) p ≡ false → nat_eq p e ≡ false
names_less m t p e h = (or_parts (nat_eq p e) (names t p)
    (or_parts (names m p) (names (e ∷ t) p) (sym (list_any-append (nat_eq p) m (e ∷ t)) ∙ h)).1).0

-- a list that names no place twice, with a new entry at its end
pub apart_more : (m : List ℕ) (e : ℕ) → IsInjective m → IsNew m e → IsInjective (m ++ e ∷ [])
apart_more [] zero a n = tt
apart_more [] (suc k) a n = (refl, tt)
apart_more (zero ∷ m) zero a n = apart_more m zero a tt
apart_more (zero ∷ m) (suc k) a n = apart_more m (suc k) a (or_parts (nat_eq (suc k) 0) (names m (suc k)) n).1
apart_more (suc l ∷ m) zero a n = (names_more m (suc l) 0 a.0 (zero_other l), apart_more m zero a.1 tt)
apart_more (suc l ∷ m) (suc k) a n = (
  names_more m (suc l) (suc k) a.0
      (other_way (suc k) (suc l) (or_parts (nat_eq (suc k) (suc l)) (names m (suc k)) n).0),
  apart_more m (suc k) a.1
      (or_parts (nat_eq (suc k) (suc l)) (names m (suc k)) n).1,
)

-- in a list that names no place twice, each entry is new behind those before it
pub new_there : (m t : List ℕ) (e : ℕ) → IsInjective (m ++ e ∷ t) → IsNew m e
new_there m t zero a = tt
new_there [] t (suc k) a = refl
new_there (zero ∷ m) t (suc k) a = ap (λ b. b || names m (suc k)) (zero_other k) ∙ new_there m t (suc k) a
new_there (suc l ∷ m) t (suc k) a = ap (λ b. b || names m (suc k))
    (other_way (suc l) (suc k) (names_less m t (suc l) (suc k) a.0)) ∙ new_there m t (suc k) a.1
