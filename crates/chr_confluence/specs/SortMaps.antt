-- Maps of values sort by sort.
use Rattle.std.specs.Prelude.{◌≡◌, ℕ, suc, ℤ, Bool, true, ◌&&◌, ⊤, List, [], ◌∷◌}
use Rattle.chr_base.specs.declared.atom.Atom.{Atom}
use Rattle.chr_types.specs.OrderTypes.{In}
use Rattle.chr_confluence.specs.Rising.{KeepsOrder}
use Rattle.chr_confluence.specs.Sorts.{Sorts, Kind, ordered, equal, free}

-- a value for each value, by the sort
abbrev pub Map : Type 0
Map = ℕ → ℤ → ℤ

-- a set of values for each sort
abbrev pub Sets : Type 0
Sets = ℕ → ℤ → Bool

-- what a kind asks of a map on a set of values: to keep their order, to keep them apart, or nothing
abbrev pub KeepsKind : Kind → (ℤ → ℤ) → (ℤ → Bool) → Type 0
KeepsKind ordered f d = KeepsOrder f d
KeepsKind equal f d = (x y : ℤ) → d x ≡ true → d y ≡ true → f x ≡ f y → x ≡ y
KeepsKind free f d = ⊤

-- A map that on each sort's set fixes the sort's constants, which are in the set, and keeps what its kind asks for.
pub record IsSortedMap (o : Sorts) (h : Map) (d : Sets) : Type 0 where
  pub there : (k : ℕ) (c : ℤ) → In c (o.constants k) → d k c ≡ true
  pub fixes : (k : ℕ) (c : ℤ) → In c (o.constants k) → h k c ≡ c
  pub keeps : (k : ℕ) → KeepsKind (o.kind k) (h k) (d k)

-- arguments, the first of which is that of number k, each mapped by its number
abbrev pub moved_from : (ℕ → ℤ → ℤ) → ℕ → List ℤ → List ℤ
moved_from f k [] = []
moved_from f k (z ∷ zs) = f k z ∷ moved_from f (suc k) zs

-- the atom with each argument mapped by the sort of its position
abbrev pub move : Sorts → Map → Atom → Atom
move o h a = record {
  symbol = a.symbol;
  args = record { items = moved_from (λ k. h (o.sort a.symbol.0 k)) 0 a.args.items };
}

-- whether each of these arguments is in its number's set
abbrev pub all_from : (ℕ → ℤ → Bool) → ℕ → List ℤ → Bool
all_from d k [] = true
all_from d k (z ∷ zs) = d k z && all_from d (suc k) zs

-- whether each argument of the atom is in the set of its position's sort
abbrev pub is_within : Sorts → Sets → Atom → Bool
is_within o d a = all_from (λ k. d (o.sort a.symbol.0 k)) 0 a.args.items
