-- Parts of a pool that are leased out, by their lease numbers.
use Rattle.std.specs.Prelude.{◌≡◌, ℕ, ◌+◌, ◌<◌, ◌≤◌, Some, List, [], ◌∷◌, map, All, ⊤}
use Rattle.std.specs.Ordering.{nat_cmp}
use Rattle.std.specs.FinMap as finite
use Rattle.chr_base.specs.Stores.{Store, size, stores_sum}
use Rattle.chr_join.specs.declared.lease.Lease.{Lease}

-- a finite map from lease numbers to parts
abbrev pub Leases : Type 0
Leases = finite.FinMap nat_cmp Store

-- all leased parts together
abbrev pub leased_store : Leases → Store
leased_store out = stores_sum (map (λ e. e.1) (finite.entries out))

-- the leases with further parts, under rising numbers from k on
abbrev pub with_parts : Leases → ℕ → List Store → Leases
with_parts out k [] = out
with_parts out k (part ∷ parts) = with_parts (finite.insert out k part) (k + 1) parts

-- leases under rising numbers from k on
abbrev pub AreNumbered : ℕ → List Lease → Type 0
AreNumbered k [] = ⊤
AreNumbered k (l ∷ ls) = (l.number ≡ k) × AreNumbered (k + 1) ls

-- the parts of leases
abbrev pub parts_in : List Lease → List Store
parts_in leases = map (λ l. l.part) leases

-- each number that is out is below k
abbrev pub AreBelow : Leases → ℕ → Type 0
AreBelow out k = (q : ℕ) (part : Store) → finite.get out q ≡ Some part → q < k

-- the sizes of any two of the stores differ by at most one
abbrev pub AreEven : List Store → Type 0
AreEven ss = All (λ s. All (λ t. size s ≤ size t + 1) ss) ss
