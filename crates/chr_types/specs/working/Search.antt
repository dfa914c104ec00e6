-- How the search goes: one class after the other. Each beginning of a list has holes, which are the values that the
-- list must still have.
use Rattle.std.specs.Prelude.{◌≡◌, ℕ, suc, zero, ℤ, pos, neg_ℤ, ◌+ℤ◌, ◌-ℤ◌, ◌⊎◌, int_lt, ◌≤ℤ◌, ◌<ℤ◌, ◌^◌, ◌≤◌, Bool}
use Rattle.std.specs.Prelude.{◌||◌, if◌then◌else◌, List, [], ◌∷◌, ◌++◌, length, map, nat_le, unsigned_abs}
use Rattle.std.proofs.Math.ListN.{get_or}
use mathlib.Core.Bool.{not}
use Rattle.std.specs.List.{list_any, filter, flat_map}
use Rattle.std.specs.Ordering.{int_eq}
use Rattle.chr_types.specs.OrderTypes.{In, Rises, IsValue}
use Rattle.chr_types.specs.Representatives.{base, IsFrom}
use Rattle.chr_types.specs.declared.search.Candidate.{Candidate}

-- the next number on the way to b
abbrev pub toward : ℤ → ℤ → ℤ
toward b v = if int_lt v b then v +ℤ pos 1 else v -ℤ pos 1

-- the value is its base, or the next number on the way to its base is that base or another of the values
abbrev pub IsPlacedByStep : List ℤ → List ℤ → ℤ → Type 0
IsPlacedByStep cs vs v = (v ≡ base cs v) ⊎ (toward (base cs v) v ≡ base cs v) ⊎ In (toward (base cs v) v) vs

-- how far v is from b
abbrev pub distance : ℤ → ℤ → ℕ
distance b v = unsigned_abs (v -ℤ b)

abbrev pub has : ℤ → List ℤ → Bool
has w xs = list_any (λ y. int_eq y w) xs

abbrev pub others : ℤ → List ℤ → List ℤ
others v xs = filter (λ y. not (int_eq y v)) xs

-- the numbers on the way from w to b, up to the first that stands in p or h, behind h
abbrev pub walk : ℕ → ℤ → List ℤ → List ℤ → ℤ → List ℤ
walk zero b p h w = h
walk (suc n) b p h w = if has w p || has w h then h else walk n b p (h ++ w ∷ []) (toward b w)

abbrev pub way : ℤ → List ℤ → List ℤ → ℤ → List ℤ
way b p h w = walk (distance b w) b p h w

-- the values that a list which begins with p and the candidate must still have, where h are those for p
abbrev pub holes_by : Candidate → List ℤ → List ℤ → List ℤ
holes_by c p h =
    if has c.value h then others c.value h
    else (if int_eq c.value c.base then h else way c.base (p ++ c.value ∷ []) h (toward c.base c.value))

-- the lists that go on with the candidate, where its holes fit
abbrev pub lists_at : (List ℤ → List ℤ → List (List ℤ)) → ℕ → List ℤ → List ℤ → Candidate → List (List ℤ)
lists_at deeper k p h c =
    if nat_le (length (holes_by c p h)) k then deeper (p ++ c.value ∷ []) (holes_by c p h) else []

-- the lists of k more values of candidates ks behind p
abbrev pub lists_over : List Candidate → ℕ → List ℤ → List ℤ → List (List ℤ)
lists_over ks zero p h = p ∷ []
lists_over ks (suc k) p h = flat_map (lists_at (lists_over ks k) k p h) ks

-- the candidates found so far: rising, each with its base, and all that are less than v
pub record CandidatesBelow (n : ℕ) (cs : List ℤ) (candidates : List Candidate) (v : ℤ) : Type 0 where
  pub rise : Rises (map (λ c. c.value) candidates)
  pub right : (c : Candidate) → In c candidates
      → (c.base ≡ base cs c.value) × IsValue c.value × IsFrom cs c.value × (c.value <ℤ v)
  pub all : (w : ℤ) → IsValue w → IsFrom cs w → distance (base cs w) w ≤ n → w <ℤ v
      → In w (map (λ c. c.value) candidates)

-- past all values of 64 bits
abbrev pub past : ℤ
past = pos (2 ^ 63)

-- all values that are near enough to their bases, rising, each with its base
abbrev pub AreCandidates : ℕ → List ℤ → List Candidate → Type 0
AreCandidates n cs candidates = CandidatesBelow n cs candidates past

-- the values from the first to the last are all counted from b
abbrev pub AreCountedFrom : List ℤ → ℤ → ℤ → ℤ → Type 0
AreCountedFrom cs b first last = (w : ℤ) → first ≤ℤ w → w ≤ℤ last → (base cs w ≡ b) × IsFrom cs w

-- where the values begin whose base is the constant at i
abbrev pub start : List ℤ → ℕ → ℤ
start cs zero = neg_ℤ past
start cs (suc i) = get_or cs (suc i) past
