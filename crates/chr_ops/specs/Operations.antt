-- Operations, and the sets of them that hold one bag for an id.
use Rattle.std.specs.Prelude.{◌≡◌, ◌≢◌, ℕ, ◌≤◌, List, [], ◌∷◌, Some, None}
use Rattle.std.specs.Option.{IsSomeAnd}
use Rattle.std.specs.FinMap as map
use Rattle.chr_base.specs.FinBag as bag
use Rattle.chr_base.specs.FinBag.{◌⊕◌}
use Rattle.chr_base.specs.Stores.{Store, size}
use Rattle.chr_base.specs.Values.{HasValues}
use Rattle.chr_ops.specs.declared.id.OpId.{OpId}
use Rattle.chr_base.specs.declared.limits.TheConstants.{MAX_OPERATION}
use Rattle.chr_ops.specs.Ids.{id_cmp}

-- an id with a bag of atoms
abbrev pub Operation : Type 0
Operation = OpId × Store

-- a finite map from ids to bags
abbrev pub Operations : Type 0
Operations = map.FinMap id_cmp Store

-- the set that a list of operations makes: at an id that stands twice it has the first bag
abbrev pub operations_of : List Operation → Operations
operations_of os = map.from_entries os

-- the bag has at least one atom, and no more than an operation may have
abbrev pub HasOperationSize : Store → Type 0
HasOperationSize s = (1 ≤ size s) × (size s ≤ MAX_OPERATION)

-- it is the bag of an operation: it has the size of one, and its arguments are 64-bit values
abbrev pub IsOperationBag : Store → Type 0
IsOperationBag s = HasOperationSize s × HasValues s

-- the sum of the bags of operations
abbrev pub sum_of : List Operation → Store
sum_of [] = bag.empty
sum_of (o ∷ os) = o.1 ⊕ sum_of os

-- what a set tells: the sum of its bags
abbrev pub told_store : Operations → Store
told_store m = sum_of (map.entries m)

-- the number of atoms that a set tells
abbrev pub told_atoms : Operations → ℕ
told_atoms m = size (told_store m)

-- the set has no operation with the id of this one
abbrev pub IsNew : Operations → Operation → Type 0
IsNew m o = map.get m o.0 ≡ None

-- the operation is in the set
abbrev pub IsHeld : Operations → Operation → Type 0
IsHeld m o = map.get m o.0 ≡ Some o.1

-- the operation's id stands for another bag in the set
abbrev pub IsHeldOtherwise : Operations → Operation → Type 0
IsHeldOtherwise m o = IsSomeAnd (map.get m o.0) (λ b. b ≢ o.1)
