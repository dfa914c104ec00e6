-- Rows with two values each, kept in an index by either value.
use Rattle.std.specs.Prelude.{◌≡◌, ℕ, ℤ, List, [], ◌∷◌, length, cond, nat_eq, Option, Some, None}
use Rattle.std.specs.Coded.{Coded, code_by, coded×, coded_ℕ, coded_ℤ, coded_list, coded_option}
use Rattle.std.proofs.Common.{refl}
use Rattle.chr_indexes.specs.RangedRows.{Entry, Pair, ListedPairs}

-- a row of both indexes, where it lives in both and has one hash there
abbrev pub pair_of : Option Entry → Option Entry → Option Pair
pair_of None right = None
pair_of (Some e) None = None
pair_of (Some e) (Some f) =
    cond (nat_eq e.hash f.hash) (Some (record { hash = e.hash; first = e.value; second = f.value })) None

-- the rows of both indexes
abbrev pub pairs_of : List (Option Entry) → List (Option Entry) → List (Option Pair)
pairs_of [] rights = []
pairs_of (left ∷ lefts) [] = []
pairs_of (left ∷ lefts) (right ∷ rights) = pair_of left right ∷ pairs_of lefts rights

-- both lists have as many rows
abbrev pub AreAsMany : List (Option Entry) → List (Option Entry) → Type 0
AreAsMany lefts rights = length lefts ≡ length rights

abbrev pub coded_pair : Coded Pair
coded_pair =
    code_by (ℕ × (ℤ × ℤ)) (coded× coded_ℕ (coded× coded_ℤ coded_ℤ)) (λ p. (p.hash, (p.first, p.second)))
    (λ t. record { hash = t.0; first = t.1.0; second = t.1.1 }) (λ _. refl)

abbrev pub pairs_code : Coded ListedPairs
pairs_code =
    code_by (List (Option Pair) × ℕ) (coded× (coded_list (coded_option coded_pair)) coded_ℕ)
    (λ e. (e.rows, e.room)) (λ p. record { rows = p.0; room = p.1 }) (λ _. refl)
