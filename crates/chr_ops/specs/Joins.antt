-- What joining a list of operations to a set comes to.
use Rattle.std.specs.Prelude.{◌≡◌, ℕ, ◌<◌, List, [], ◌∷◌, ◌++◌, Some, slice_get, take, if◌then◌else◌, ⊤}
use Rattle.std.specs.FinMap as map
use Rattle.chr_ops.specs.declared.id.OpId.{OpId}
use Rattle.chr_ops.specs.declared.limits.TheConstants.{MAX_TOLD}
use Rattle.chr_ops.specs.Operations.{Operation, Operations, operations_of, told_atoms, IsHeldOtherwise, IsNew}

-- the set and the operations of the list, of each id its first bag
abbrev pub union : Operations → List Operation → Operations
union m os = operations_of (map.entries m ++ os)

-- the operations of the list that are new to the set, each once
abbrev pub fresh : Operations → List Operation → List Operation
fresh m [] = []
fresh m (o ∷ os) = if map.contains_key m o.0 then fresh m os else o ∷ fresh (map.insert m o.0 o.1) os

-- each operation of the list is new to the set and those before it
abbrev pub AreNew : Operations → List Operation → Type 0
AreNew m [] = ⊤
AreNew m (o ∷ os) = IsNew m o × AreNew (map.insert m o.0 o.1) os

-- the list's operation at a place has this id, which stands for another bag in the set or earlier in the list
abbrev pub ClashesAt : Operations → List Operation → ℕ → OpId → Type 0
ClashesAt m os i id =
    (o : Operation) × (slice_get os i ≡ Some o) × (id ≡ o.0) × IsHeldOtherwise (union m (take i os)) o

-- this is the id of the first operation of the list that clashes
abbrev pub IsFirstClash : Operations → List Operation → OpId → Type 0
IsFirstClash m os id =
    (i : ℕ) × ClashesAt m os i id × ((j : ℕ) (other : OpId) → j < i → ¬ (ClashesAt m os j other))

-- no operation of the list clashes
abbrev pub HasNoClash : Operations → List Operation → Type 0
HasNoClash m os = (i : ℕ) (id : OpId) → ¬ (ClashesAt m os i id)

-- the union would tell more atoms than a set may
abbrev pub IsOverLimit : Operations → List Operation → Type 0
IsOverLimit m os = MAX_TOLD < told_atoms (union m os)
