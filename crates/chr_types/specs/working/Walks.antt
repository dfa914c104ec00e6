-- How the walk over order types goes: as the search for their list does, but for beginnings that are not admitted.
use Rattle.std.specs.Prelude.{ℕ, suc, zero, ℤ, Bool, if◌then◌else◌, List, [], ◌∷◌, ◌++◌, length, nat_le}
use Rattle.std.specs.List.{flat_map}
use Rattle.chr_types.specs.declared.search.Candidate.{Candidate}
use Rattle.chr_types.specs.working.Search.{holes_by}

-- the lists that go on with the candidate, where its holes fit and it is admitted
abbrev pub walked_at : (List ℤ → Bool) → (List ℤ → List ℤ → List (List ℤ)) → ℕ → List ℤ → List ℤ → Candidate
    → List (List ℤ)
walked_at admits deeper k p h c =
    if nat_le (length (holes_by c p h)) k
    then (if admits (p ++ c.value ∷ []) then deeper (p ++ c.value ∷ []) (holes_by c p h) else []) else []

-- the lists of k more values of candidates ks behind p whose beginnings are admitted
abbrev pub walked : (List ℤ → Bool) → List Candidate → ℕ → List ℤ → List ℤ → List (List ℤ)
walked admits ks zero p h = p ∷ []
walked admits ks (suc k) p h = flat_map (walked_at admits (walked admits ks k) k p h) ks
