-- Lists of values that stand for others, sort by sort.
use Rattle.std.specs.List.{zip}
use Rattle.std.specs.Prelude.{◌≡◌, ℕ, suc, ℤ, ⊤, ◌↔◌, ◌⊎◌, if◌then◌else◌, nat_eq, List, [], ◌∷◌, length}
use Rattle.chr_types.specs.OrderTypes.{In, RisesBy, SameType, AreValues}
use Rattle.chr_confluence.specs.Sorts.{Sorts, Kind, ordered, equal, free}

-- two of us, or one and a constant, are equal just where those of vs in their places are
pub record SamePartition (constants us vs : List ℤ) : Type 0 where
  pub count : length us ≡ length vs
  pub classes : (p q : ℤ × ℤ) → In p (zip us vs) → In q (zip us vs) → (p.0 ≡ q.0) ↔ (p.1 ≡ q.1)
  pub against : (p : ℤ × ℤ) (c : ℤ) → In p (zip us vs) → In c constants → (p.0 ≡ c) ↔ (p.1 ≡ c)

-- two of us, or one and a constant, are equal only where those of vs in their places are
pub record AtMostEqual (constants us vs : List ℤ) : Type 0 where
  pub count : length us ≡ length vs
  pub classes : (p q : ℤ × ℤ) → In p (zip us vs) → In q (zip us vs) → p.0 ≡ q.0 → p.1 ≡ q.1
  pub against : (p : ℤ × ℤ) (c : ℤ) → In p (zip us vs) → In c constants → p.0 ≡ c → p.1 ≡ c

-- us stand for vs among the constants of a sort of this kind: they have one order type, or one partition, or us are at
-- least as different
abbrev pub StandsAt : Kind → List ℤ → List ℤ → List ℤ → Type 0
StandsAt ordered cs us vs = SameType cs us vs
StandsAt equal cs us vs = SamePartition cs us vs
StandsAt free cs us vs = AtMostEqual cs us vs

-- the values of the sort k among values whose sorts are ks
abbrev pub values_at : ℕ → List ℕ → List ℤ → List ℤ
values_at k [] zs = []
values_at k (j ∷ ks) [] = []
values_at k (j ∷ ks) (z ∷ zs) = if nat_eq j k then z ∷ values_at k ks zs else values_at k ks zs

-- us stand for vs, both of the sorts ks, sort by sort; how values of two sorts compare doesn't matter
pub record StandsFor (o : Sorts) (ks : List ℕ) (us vs : List ℤ) : Type 0 where
  pub count : length us ≡ length ks
  pub each : (k : ℕ) → StandsAt (o.kind k) (o.constants k) (values_at k ks us) (values_at k ks vs)

-- for each list of 64-bit values of the sorts ks one of rs stands
abbrev pub Cover : Sorts → List ℕ → List (List ℤ) → Type 0
Cover o ks rs =
    (vs : List ℤ) → length vs ≡ length ks → AreValues vs → (us : List ℤ) × In us rs × StandsFor o ks us vs

-- ---- lists that cover one sort

-- for each list of n 64-bit values one of rs stands
abbrev pub CoverAt : Kind → List ℤ → ℕ → List (List ℤ) → Type 0
CoverAt kind cs n rs =
    (vs : List ℤ) → length vs ≡ n → AreValues vs → (us : List ℤ) × In us rs × StandsAt kind cs us vs

-- all different, and none a constant
abbrev pub AreNew : List ℤ → List ℤ → Type 0
AreNew cs us = RisesBy (λ x y. ¬ (x ≡ y)) us × ((z : ℤ) → In z us → ¬ In z cs)

-- values block by block, in the order of first occurrence: each is a constant, or the value of a block before, or that
-- of a new block, which is the next of the numbers ns
abbrev pub AreBlocks : List ℤ → List ℤ → List ℤ → List ℤ → Type 0
AreBlocks cs before ns [] = ⊤
AreBlocks cs before [] (z ∷ zs) = (In z cs ⊎ In z before) × AreBlocks cs before [] zs
AreBlocks cs before (n ∷ ns) (z ∷ zs) =
    ((In z cs ⊎ In z before) × AreBlocks cs before (n ∷ ns) zs) ⊎ ((z ≡ n) × AreBlocks cs (n ∷ before) ns zs)

-- how often the sort k stands in the list
abbrev pub sort_count : ℕ → List ℕ → ℕ
sort_count k [] = 0
sort_count k (j ∷ ks) = if nat_eq j k then suc (sort_count k ks) else sort_count k ks
