-- The symbols seen so far, and the set of their names and digits.
use Rattle.std.proofs.Common.{◌≡◌, ◌&&◌, ◌||◌, ◌+◌, ◌<◌, ℕ, List, ◌∷◌, Bool, true, false, not, cond, map, drop, get_or}
use Rattle.std.proofs.Common.{length, refl, sym, ap, ◌∙◌}
use Rattle.std.proofs.lemmas.List.{drop_more}
use Rattle.std.specs.Borrow.{Bor}
use Rattle.std.specs.List.{list_any}
use Rattle.std.specs.Str.{bytes_eq}
use Rattle.chr_syntax.specs.Clauses.{Symbol}
use Rattle.chr_read.specs.Numbers.{without_zeros}
use Rattle.chr_read.specs.working.RuleParts.{comes_again}

abbrev pub Key : Type 0
Key = Bor (List ℕ) × Bor (List ℕ)

abbrev pub has_key : Key → List Key → Bool
has_key q keys = list_any (λ k. bytes_eq q.0.now k.0.now && bytes_eq q.1.now k.1.now) keys

-- one of these has this name and these digits
abbrev pub among : List ℕ → List ℕ → List Symbol → Bool
among name digits earlier = list_any (λ e. bytes_eq e.name name && bytes_eq (without_zeros e.arity) digits) earlier

pub one_more : {A : Type 0} (earlier : List Symbol) (v : A → Symbol) (xs : List A) (k : ℕ) (d : A) → k < length xs
    → comes_again earlier (map v (drop k xs)) ≡ (among (v (get_or xs k d)).name
    (without_zeros (v (get_or xs k d)).arity) earlier || comes_again (v (get_or xs k d) ∷ earlier)
    (map v (drop (k + 1) xs)))
one_more earlier v xs k d within = ap (λ l. comes_again earlier (map v l)) (drop_more xs k d within)

pub is_not : (a b : Bool) → a ≡ not b → a ≡ false → b ≡ true
is_not a true e f = refl
is_not a false e f = sym f ∙ e

pub is_not_false : (a b : Bool) → a ≡ not b → a ≡ true → b ≡ false
is_not_false a true e f = sym f ∙ e
is_not_false a false e f = refl

pub found : (a b : Bool) → a ≡ true → (a || b) ≡ true
found a b h = ap (λ x. x || b) h

pub not_found : (a b : Bool) → a ≡ false → (a || b) ≡ b
not_found a b h = ap (λ x. x || b) h

pub one_more_key : (other : List ℕ) (name digits : List ℕ) (before : Bool) (earlier : List Symbol) (s : Symbol)
    → other ≡ without_zeros s.arity → before ≡ among name digits earlier
    → cond (bytes_eq s.name name && bytes_eq other digits) true before ≡ among name digits (s ∷ earlier)
one_more_key other name digits before earlier s same was =
    ap (λ o. cond (bytes_eq s.name name && bytes_eq o digits) true before) same
    ∙ by (bytes_eq s.name name && bytes_eq (without_zeros s.arity) digits)
  where
    by : (b : Bool) → cond b true before ≡ (b || among name digits earlier)
    by true = refl
    by false = was
