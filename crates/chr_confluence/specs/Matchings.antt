-- Matchings of two lists of heads.
use Rattle.std.specs.Prelude.{◌≡◌, ℕ, zero, suc, Bool, true, false, ◌||◌, nat_eq, nat_lt, List, [], ◌∷◌, ◌++◌, length}
use Rattle.std.specs.Prelude.{Some, slice_get}
use Rattle.std.specs.List.{list_any}
use Rattle.chr_base.specs.declared.atom.Atom.{Atom}
use Rattle.std.specs.Prelude.{if◌then◌else◌, ⊤}

-- A matching is a list with an entry for each place of the first heads: 0, or the place of the second that it is
-- matched with, counted from 1. It names the place p where p is one of its entries.
abbrev pub names : List ℕ → ℕ → Bool
names m p = list_any (nat_eq p) m

-- the matched atoms of bs and as' are equal
abbrev pub MatchedAreEqual : List Atom → List ℕ → List Atom → Type 0
MatchedAreEqual bs [] [] = ⊤
MatchedAreEqual bs [] (a ∷ as') = ⊥
MatchedAreEqual bs (e ∷ m) [] = ⊥
MatchedAreEqual bs (zero ∷ m) (a ∷ as') = MatchedAreEqual bs m as'
MatchedAreEqual bs (suc p ∷ m) (a ∷ as') = (slice_get bs p ≡ Some a) × MatchedAreEqual bs m as'

-- no place of the second heads is matched twice
abbrev pub IsInjective : List ℕ → Type 0
IsInjective [] = ⊤
IsInjective (zero ∷ m) = IsInjective m
IsInjective (suc p ∷ m) = (names m (suc p) ≡ false) × IsInjective m

-- whether a matched head is a removed one, where the rules keep their first n and their first n2 heads
abbrev pub matches_removed : ℕ → ℕ → List ℕ → Bool
matches_removed n n2 [] = false
matches_removed zero n2 (zero ∷ m) = matches_removed zero n2 m
matches_removed (suc n) n2 (zero ∷ m) = matches_removed n n2 m
matches_removed zero n2 (suc p ∷ m) = true
matches_removed (suc n) n2 (suc p ∷ m) = nat_lt n2 (suc p) || matches_removed n n2 m

-- a matching of the heads of two instances, each of kept and removed ones
pub record Matches (ks1 rs1 ks2 rs2 : List Atom) (m : List ℕ) : Type 0 where
  pub agrees : MatchedAreEqual (ks2 ++ rs2) m (ks1 ++ rs1)
  pub apart : IsInjective m
  pub touching : matches_removed (length ks1) (length ks2) m ≡ true

-- the atoms of bs, whose places are counted from k, at places that the matching does not name
abbrev pub left_over : List ℕ → ℕ → List Atom → List Atom
left_over m k [] = []
left_over m k (b ∷ bs) = if names m (suc k) then left_over m (suc k) bs else b ∷ left_over m (suc k) bs

-- the heads of both, the matched ones once
abbrev pub case_atoms : List Atom → List Atom → List ℕ → List Atom
case_atoms as' bs m = as' ++ left_over m 0 bs
