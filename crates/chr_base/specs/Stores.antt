-- Stores, which are finite multisets of atoms.
use Rattle.std.specs.Prelude.{ℕ, List, [], ◌∷◌}
use Rattle.chr_base.specs.declared.atom.Atom.{Atom}
use Rattle.chr_base.specs.Atoms.{atom_cmp}
use Rattle.chr_base.specs.FinBag as bag
use Rattle.chr_base.specs.FinBag.{◌⊕◌}

abbrev pub Store : Type 0
Store = bag.FinBag atom_cmp

-- the store of these atoms
abbrev pub store_of : List Atom → Store
store_of xs = bag.of_list xs

-- the sum of stores
abbrev pub stores_sum : List Store → Store
stores_sum [] = bag.empty
stores_sum (s ∷ ss) = s ⊕ stores_sum ss

-- the number of atoms
abbrev pub size : Store → ℕ
size s = bag.len s

-- how often an atom stands in the store
abbrev pub count : Store → Atom → ℕ
count s q = bag.count s q

-- the weights of the atoms summed
abbrev pub weight_of : (Atom → ℕ) → Store → ℕ
weight_of w s = bag.sum_over w s
